-- What is found of the effects of a walk, and what a step that is denied may put.
use Rattle.std.proofs.Common.{◌≡◌, ◌<◌, ℕ, length, get_or, Bool, true, false, cond, List, [], ◌∷◌, ◌++◌, find, refl, sym, ap, ap₂, subst, ◌∙◌, Option, Some, None, is_some, option_map}
use Rattle.std.proofs.lemmas.Bool.{false≢true}
use Rattle.std.specs.List.{FoldsTo, position_from}
use Rattle.std.specs.Option.{option_or}
use Rattle.std.proofs.lemmas.List.{length-map, get_or-map}
use Rattle.std.proofs.lemmas.List.Folds.{find-append}
use Rattle.cosem_data.specs.Cells.{same_cell}
use Rattle.meter_theory.specs.declared.flow.Label.{Label}
use Rattle.flow_edges.specs.Table.{no_cell}
use Rattle.flow_edges.proofs.Sources.{numbered}
use Rattle.cosem_data.specs.declared.cell.CellRef.{CellRef}
use Rattle.meter_theory.specs.Labels.{Policy, Labelling, labelling_of_policy}
use Rattle.meter_theory.specs.Notice.{may_put, MayNotice, first_notice}
use Rattle.cosem_data.specs.declared.name.LogicalName.{LogicalName}
use Rattle.meter_theory.specs.Lists.{for_some}
use Rattle.meter_theory.specs.Plan.{Plan, Object, Part, cells, object_at}
use Rattle.meter_theory.specs.Rights.{cell_of, method_of}
use Rattle.meter_theory.specs.Steps.{Effect, changed_by, changed, given_value, method_effects, Step, Get, Set, Act, Input, CaptureAt, Evaluate, ScheduleAt, Tick, ClockAt}
use Rattle.meter_core.specs.Changing.{is_changing}
use Rattle.flow_checker.specs.Accepted.{Accepted, AreAllowed}
use Rattle.flow_checker.specs.Notices.{learns, notice_of, LooksOn}
use Rattle.flow_checker.specs.declared.notice.Notice.{Notice}
use Rattle.flow_checker.specs.declared.looking.Looking.{Looking}

or_none : {A : Type 0} (o : Option A) → option_or o None ≡ o
or_none None = refl
or_none (Some x) = refl

or_or : {A : Type 0} (o p q : Option A) → option_or (option_or o p) q ≡ option_or o (option_or p q)
or_or None p q = refl
or_or (Some x) p q = refl

-- behind a walk what was found is what was found before, or else the first that the effects change and the client may learn
pub looked : (es : List Effect) (a b : Looking) → FoldsTo LooksOn a es b → b.found ≡ option_or a.found (find (learns a.checked.now a.client) (changed es))
looked [] a b same = ap (λ (l : Looking). l.found) (sym same) ∙ sym (or_none a.found)
looked (e ∷ es) a b (mid, step, rest) =
    looked es mid b rest
    ∙ ap₂ option_or step.finds (ap₂ (λ plan c. find (learns plan c) (changed es)) step.same_plan step.same_client)
    ∙ or_or a.found (find (learns a.checked.now a.client) (changed_by e)) (find (learns a.checked.now a.client) (changed es))
    ∙ ap (option_or a.found) (sym (find-append (learns a.checked.now a.client) (changed_by e) (changed es)))

-- where nothing was found before, by a walk over the effects that the plan has
pub looked_anew : (accepted : Accepted) (plan : Plan) (c : ℕ) (es : Plan → List Effect) (a b : Looking) → a.checked.now ≡ accepted → a.client ≡ c → a.found ≡ None →
    plan ≡ accepted.plan → FoldsTo LooksOn a (es plan) b → b.found ≡ find (learns accepted c) (changed (es accepted.plan))
looked_anew accepted plan c es a b at by none same walked =
    looked (es plan) a b walked ∙ ap₂ option_or none (ap₂ (λ p d. find (learns p d) (changed (es plan))) at by)
    ∙ ap (λ p. find (learns accepted c) (changed (es p))) same

-- the part of the object of this name
pub found_part : {A : Type 0} (P : Plan) (n : LogicalName) (o : Object) (part : Part) (f : Part → List A) → object_at P n ≡ Some o → o.part ≡ part →
    for_some (object_at P n) (λ z. f z.part) ≡ f part
found_part P n o part f is at = ap (λ z. for_some z (λ y. f y.part)) is ∙ ap f at

-- a step that may not change a meter puts nothing
pub denied : (P : Plan) (step : Step) → is_changing P step ≡ false → may_put P step ≡ []
denied P (Get c d selection) h = refl
denied P (Set c d selected v) h = ap (λ b. cond b (changed (given_value (cell_of d) v)) []) h
denied P (Act c d argument) h = ap (λ b. cond b (changed (method_effects P (method_of d) argument)) []) h
denied P (Input x v) h = cc
denied P (CaptureAt n) h = cc
denied P (Evaluate n) h = cc
denied P (ScheduleAt n) h = cc
denied P Tick h = cc
denied P (ClockAt t) h = cc

-- what is found among two lists, where nothing is found in the first, and where something is
pub found_behind : (p : CellRef → Bool) (xs ys : List CellRef) → find p xs ≡ None → find p ys ≡ find p (xs ++ ys)
found_behind p xs ys none = sym (find-append p xs ys ∙ ap (λ o. option_or o (find p ys)) none)

pub found_first : (p : CellRef → Bool) (xs ys : List CellRef) (x : CellRef) → find p xs ≡ Some x → Some x ≡ find p (xs ++ ys)
found_first p xs ys x is = sym (find-append p xs ys ∙ ap (λ o. option_or o (find p ys)) is)

-- where no notice is told there is none
pub unnoticed : (P : Plan) (Q : Labelling) (c : ℕ) (step : Step) (told : Option Notice) → option_map notice_of told ≡ first_notice P Q c step → is_some told ≡ false →
    (MayNotice P Q c step → is_some (first_notice P Q c step) ≡ true) → MayNotice P Q c step → ⊥
unnoticed P Q c step (Some notice) is none there notice-is = cc
unnoticed P Q c step None is none there notice-is = false≢true (ap is_some is ∙ there notice-is)

-- labels by the numbers of the plan's cells
pub number_within : (P : Plan) (policy : Policy) (labels : List Label) (x : CellRef) (k : ℕ) → AreAllowed P policy labels → position_from (same_cell x) 0 (cells P) ≡ Some k → k < length labels
number_within P policy labels x k are is =
    subst (λ n. k < n) (sym (ap length are ∙ length-map (cells P) (labelling_of_policy P policy))) (numbered (cells P) x k is).0

pub label_there : (P : Plan) (policy : Policy) (labels : List Label) (x : CellRef) (k : ℕ) (l : Label) → AreAllowed P policy labels → position_from (same_cell x) 0 (cells P) ≡ Some k →
    l ≡ get_or labels k l → l ≡ labelling_of_policy P policy x
label_there P policy labels x k l are is at =
    at ∙ ap (λ ls. get_or ls k l) are ∙ get_or-map (labelling_of_policy P policy) (cells P) k no_cell l (numbered (cells P) x k is).0
    ∙ ap (labelling_of_policy P policy) (numbered (cells P) x k is).1
