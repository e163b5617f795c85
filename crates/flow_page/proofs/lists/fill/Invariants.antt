use Rattle.std.proofs.Common.{◌≡◌, ◌++◌, take}
use denote.Shadow.{shadow}
use denote.Text.{Utf8}
use Rattle.shown_text.specs.Pieces.{facts}
use Rattle.flow_page.proofs.lists.fill.Given as goal

-- the values before are there, and what is left of the template is text
abbrev pub invariant-loop-value : goal.invariant-loop-value
invariant-loop-value l =
    facts l.pieces.items ≡ facts l.initial.pieces.items ++ facts (take l.value-index l.values) × shadow (Utf8 l.rest)
