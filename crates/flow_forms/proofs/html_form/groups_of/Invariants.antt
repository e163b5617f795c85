use Rattle.std.proofs.Common.{◌≡◌, map, take}
use Rattle.flow_forms.specs.Html.{numbers_of}
use Rattle.flow_forms.proofs.html_form.groups_of.Given as goal

-- those of the rows before
abbrev pub invariant-loop-row : goal.invariant-loop-row
invariant-loop-row l = map (λ group. group.items) l.groups.items ≡ numbers_of l.plan (take l.row-index l.rows)
