use Rattle.std.proofs.Common.{◌≡◌, ◌++◌, List, ℕ, map, take}
use Rattle.std.specs.Io.KnownBytes.{Appends}
use Rattle.flow_forms.specs.Listing.{links_text}
use Rattle.flow_forms.proofs.edges.write_links.Given as goal

-- of the head and the lines of the links before, a front was written and the others wait
abbrev pub invariant-loop-link : goal.invariant-loop-link
invariant-loop-link g l =
    (front : List ℕ) × (l.form.head.now ++ links_text l.form (map (λ text. text.items) l.sources) (map (λ text. text.items) l.targets) (take l.link-index l.links) ≡ front ++ l.waiting.items)
    × Appends (g.W.Write.contents l.fn.writer) (g.W.Write.contents l.writer) front
