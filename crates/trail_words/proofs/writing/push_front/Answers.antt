use Rattle.trail_words.proofs.writing.push_front.Goals as goal

pub returns-in_ok-push_framed-in-Json : goal.returns-in_ok-push_framed-in-Json
returns-in_ok-push_framed-in-Json c = let digest = c.in_ok-digest-in-Json.ensures in rw c.in-Json.is (rw digest at c.in_ok-push_framed-in-Json.ensures)
