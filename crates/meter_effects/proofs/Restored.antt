-- Effects one after another, and taken back.
use Rattle.std.proofs.Common.{inl, ◌≡◌, List, [], ◌∷◌, ◌++◌, refl, ap, ◌∙◌}
use Rattle.std.specs.Prelude.{Option, Some, None, Result, Ok, Err, is_ok, if◌then◌else◌}
use Rattle.meter_theory.specs.Plan.{Plan, buffer, entries_in_use}
use Rattle.meter_theory.specs.States.{Fits}
use Rattle.meter_theory.specs.State.{State, keys, put}
use Rattle.meter_theory.proofs.State.{keys-put}
use Rattle.object_model.specs.EffectView.{effect_of, MayTake}
use Rattle.object_model.specs.Undone.{profile_undone, change_undone, emptied_undone, undone, all_undone}
use Rattle.object_model.specs.declared.effect.Effect.{Effect}
use Rattle.object_model.specs.declared.effect.Effect.TheVariants as effects
use Rattle.object_model.specs.declared.undo.Change.{Change}
use Rattle.object_model.specs.declared.undo.Change.TheVariants as changes
use Rattle.class_control.specs.declared.monitor.MonitorChange.TheVariants as monitors
use Rattle.class_control.specs.declared.schedule.ScheduleChange.TheVariants as schedules
use Rattle.class_profile.specs.declared.profile.Cleared.{Cleared}
use Rattle.class_profile.specs.declared.profile.ProfileChange.{ProfileChange}
use Rattle.class_profile.specs.declared.profile.ProfileChange.TheVariants as profiles
use Rattle.cosem_data.specs.declared.name.LogicalName.{LogicalName}
use Rattle.object_model.specs.declared.undo.Undo.{Undo}

-- the last effect is taken back first
pub all_undone-push : (undos : List Undo) (undo : Undo) (s : State) → all_undone (undos ++ undo ∷ []) s ≡ all_undone undos (undone undo s)
all_undone-push [] undo s = refl
all_undone-push (u ∷ undos) undo s = ap (undone u) (all_undone-push undos undo s)

-- an effect that is taken back leaves the cells
keys-profile_undone : (n : LogicalName) (change : ProfileChange) (s : State) → keys (profile_undone n change s) ≡ keys s
keys-profile_undone n (profiles.Period held) s = keys-put s _ _
keys-profile_undone n (profiles.Objects held) s = keys-put s _ _
keys-profile_undone n (profiles.Captured c) s = keys-put (put s (buffer n) _) (entries_in_use n) _ ∙ keys-put s _ _
keys-profile_undone n (profiles.Cleared c) s = keys-put (put s (buffer n) _) (entries_in_use n) _ ∙ keys-put s _ _

keys-change_undone : (n : LogicalName) (change : Change) (s : State) → keys (change_undone n change s) ≡ keys s
keys-change_undone n (changes.Data held) s = keys-put s _ _
keys-change_undone n (changes.Register held) s = keys-put s _ _
keys-change_undone n (changes.ProfileGeneric change) s = keys-profile_undone n change s
keys-change_undone n (changes.Clock held) s = keys-put s _ _
keys-change_undone n (changes.RegisterMonitor (monitors.Thresholds held)) s = keys-put s _ _
keys-change_undone n (changes.RegisterMonitor (monitors.Seen held)) s = keys-put s _ _
keys-change_undone n (changes.SingleActionSchedule (schedules.Script held)) s = keys-put s _ _
keys-change_undone n (changes.SingleActionSchedule (schedules.Times held)) s = keys-put s _ _

keys-emptied_undone : (n : LogicalName) (emptied : Option Cleared) (s : State) → keys (emptied_undone n emptied s) ≡ keys s
keys-emptied_undone n None s = refl
keys-emptied_undone n (Some cleared) s = keys-profile_undone n (profiles.Cleared cleared) s

pub keys-undone : (undo : Undo) (s : State) → keys (undone undo s) ≡ keys s
keys-undone undo s = keys-emptied_undone undo.name undo.emptied (change_undone undo.name undo.change s) ∙ keys-change_undone undo.name undo.change s

-- and keeps the kinds
pub may_take-fits : (P : Plan) (e : Effect) → MayTake P e → Fits P (effect_of e)
may_take-fits P (effects.Put cell v) may = inl may
may_take-fits P (effects.Remember monitor v) may = may
may_take-fits P _ may = tt

-- a push that succeeds
pub pushed : {A U E : Type 0} (r : Result U E) (u : U) (new before after : List A) → r ≡ Ok u → new ≡ (if is_ok r then after else before) → new ≡ after
pushed (Ok x) u new before after is h = h
pushed (Err e) u new before after is h = cc
