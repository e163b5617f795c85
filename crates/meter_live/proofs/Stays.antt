-- What is kept of a meter's steps still leads to its state.
use Rattle.std.proofs.Common.{◌≡◌, ◌<◌, ℕ, suc, ◌+◌, Bool, true, false, List, [], ◌∷◌, length, take, get_or, refl, ap, sym, subst, arith, ◌∙◌}
use Rattle.std.specs.List.{All}
use Rattle.std.proofs.Math.Seq.{take-suc}
use Rattle.std.proofs.lemmas.List.Elements.{All-push}
use Rattle.std.specs.Prelude.{◌↔◌, cond, IsTrue, Option, None, Some}
use Rattle.cosem_data.specs.Cells.{same_cell}
use Rattle.cosem_data.specs.Equal.{same_tree, same_tree-refl, same_tree-true}
use Rattle.cosem_data.specs.Tree.{Tree}
use Rattle.cosem_data.specs.declared.cell.CellRef.{CellRef}
use Rattle.meter_theory.specs.Plan.{Plan, seen, start}
use Rattle.meter_theory.specs.Replies.{run}
use Rattle.meter_theory.specs.State.{State, put, value}
use Rattle.meter_theory.specs.Steps.{Step, next}
use Rattle.step_keeping.specs.Keeping.{AreKept, IsKept, StillKept, kept_behind}
use Rattle.meter_core.specs.Back.{taken_back}
use Rattle.meter_core.specs.declared.back.Back.{Back}
use Rattle.meter_core.specs.declared.back.Back.TheVariants as backs
use Rattle.class_control.specs.declared.monitor.MonitorChange.TheVariants as monitors
use Rattle.cosem_data.specs.View.{tree}
use Rattle.cosem_data.specs.declared.name.LogicalName.{LogicalName}
use Rattle.object_model.specs.Undone.{all_undone, change_undone, emptied_undone, undone}
use Rattle.object_model.specs.declared.undo.Change.{Change}
use Rattle.object_model.specs.declared.undo.Change.TheVariants as changes
use Rattle.object_model.specs.declared.undo.Undo.{Undo}
use Rattle.meter_live.specs.Keeping.{IsSeenAgain, SeesAgain, Stays, fault_again, kept_by}
use Rattle.meter_live.specs.declared.fault.LiveFault.{LiveFault}
use Rattle.meter_live.specs.declared.fault.LiveFault.TheVariants as lives
use Rattle.meter_live.specs.declared.resuming.ResumeFault.TheVariants as resumes
use Rattle.meter_live.proofs.Trails.{run-push}

-- a cell in which its own value is put
pub put-value : (s : State) (x : CellRef) → put s x (value s x) ≡ s
put-value [] x = refl
put-value (e ∷ s) x = elim (same_cell e.0 x) as (λ b. cond b ((e.0, cond b e.1 (value s x)) ∷ s) (e ∷ put s x (cond b e.1 (value s x))) ≡ e ∷ s) [
  | true ↦ refl
  | false ↦ ap (λ t. e ∷ t) (put-value s x)
]

pub put-same : (s : State) (x : CellRef) (v : Tree) → value s x ≡ v → put s x v ≡ s
put-same s x v is = ap (put s x) (sym is) ∙ put-value s x

-- whether this is the value that is held now
pub tested : (is : Bool) (v held now : Tree) → is ≡ same_tree v held → held ≡ now → IsTrue is ↔ (now ≡ v)
tested is v held now test found = (
  λ holds. sym (same_tree-true v held (sym test ∙ holds) ∙ found),
  λ same. test ∙ ap (same_tree v) (found ∙ same) ∙ same_tree-refl v,
)

-- what a register monitor saw again is put back
change-same : (s : State) (name : LogicalName) (change : Change) → SeesAgain s name change → change_undone name change s ≡ s
change-same s name (changes.Data held) again = absurd again
change-same s name (changes.Register held) again = absurd again
change-same s name (changes.ProfileGeneric change) again = absurd again
change-same s name (changes.Clock held) again = absurd again
change-same s name (changes.RegisterMonitor (monitors.Thresholds held)) again = absurd again
change-same s name (changes.RegisterMonitor (monitors.Seen held)) again = put-same s (seen name) (tree held) again
change-same s name (changes.SingleActionSchedule change) again = absurd again

undone-same : (s : State) (undo : Undo) → IsSeenAgain s undo → undone undo s ≡ s
undone-same s undo again =
    ap (λ emptied. emptied_undone undo.name emptied (change_undone undo.name undo.change s)) again.0 ∙ change-same s undo.name undo.change again.1

all-undone-same : (s : State) (undos : List Undo) → All (IsSeenAgain s) undos → all_undone undos s ≡ s
all-undone-same s [] again = refl
all-undone-same s (undo ∷ undos) again =
    ap (undone undo) (all-undone-same s undos (λ k d within. again (suc k) d (omega (arith, within)))) ∙ undone-same s undo (again 0 undo (omega arith))

-- a step by which the meter stays as it was is taken back to the same state
pub stays-same : (P : Plan) (s : State) (back : Back) → Stays s back → taken_back P back s ≡ s
stays-same P s backs.Nothing stays = refl
stays-same P s (backs.Effect undo) stays = undone-same s undo stays
stays-same P s (backs.Effects undos) stays = all-undone-same s undos.items stays
stays-same P s (backs.Clock moment) stays = absurd stays

-- of one list more
pub all-next : {A : Type 0} (H : A → Type 0) (xs : List A) (i : ℕ) (x : A) → i < length xs → x ≡ get_or xs i x → All H (take i xs) → H x → All H (take (i + 1) xs)
all-next H xs i x within is before here =
    let one : suc i ≡ i + 1 = omega arith in
    subst (λ n. All H (take n xs)) one (subst (All H) (sym (take-suc xs i x within)) (All-push H (take i xs) (get_or xs i x) before (subst H is here)))

-- what is known no longer says nothing
pub kept-still : (P : Plan) (old new : Option (List Step)) (s : State) → StillKept old new → IsKept P old s → IsKept P new s
kept-still P old None s same is = tt
kept-still P old (Some all) s same is = subst (λ k. IsKept P k s) same is

kept-more : (P : Plan) (kept : Option (List Step)) (s : State) (step : Step) → IsKept P kept s → IsKept P (kept_behind kept step) (next P s step)
kept-more P None s step is = tt
kept-more P (Some all) s step is = ap (λ t. next P t step) is ∙ sym (run-push P (start P) all step)

-- a step that was kept, or by which the meter stays as it was
pub kept-after : (P : Plan) (is_same : Bool) (kept : Option (List Step)) (s : State) (step : Step) → (is_same ≡ true → next P s step ≡ s) → IsKept P kept s
    → IsKept P (kept_by is_same kept step) (next P s step)
kept-after P true kept s step same is = subst (IsKept P kept) (sym (same refl)) is
kept-after P false kept s step same is = kept-more P kept s step is

-- the meter that took the steps that are kept
pub kept-from : (P : Plan) (kept : Option (List Step)) (steps : List Step) (s : State) → AreKept kept steps → s ≡ run P (start P) steps → IsKept P kept s
kept-from P kept steps s are is = kept-still P (Some steps) kept s are is

-- of the faults of a step only one says that no step can be counted any more
pub full-again : (fault : LiveFault) → fault_again fault ≡ resumes.Full → fault ≡ lives.Full
full-again lives.Full is = refl
full-again lives.Memory is = absurd (cc is)
full-again lives.NotKept is = absurd (cc is)
full-again lives.InDoubt is = absurd (cc is)
