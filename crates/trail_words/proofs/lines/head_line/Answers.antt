use Rattle.trail_words.proofs.lines.head_line.Goals as goal

pub returns : goal.returns
returns c = let digest = c.in_ok-digest.ensures in rw digest at c.in_ok-format.ensures.ok
