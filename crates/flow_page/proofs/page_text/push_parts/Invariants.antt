use Rattle.std.proofs.Common.{flat_map, string_bytes, take}
use Rattle.flow_page.specs.Page.{Says, part_facts}
use Rattle.flow_page.proofs.page_text.push_parts.Given as goal

-- the parts before are there
abbrev pub invariant-loop-part : goal.invariant-loop-part
invariant-loop-part l =
    Says (flat_map (part_facts l.page) (take l.part-index l.parts)) (string_bytes l.initial.text) (string_bytes l.text)
