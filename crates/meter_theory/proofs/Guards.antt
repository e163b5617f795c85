-- In states that agree on a closed set of cells which holds a cell behind the guards of a step, the step has the same effects.
use Rattle.std.proofs.Common.{◌++◌, ◌≡◌, Bool, true, cond, List, [], ◌∷◌, flat_map, refl, sym, ap, ap₂, subst, ◌∙◌, inl, inr, Option, Some, None}
use Rattle.cosem_data.specs.Tree.{Tree}
use Rattle.cosem_data.specs.declared.cell.CellRef.{CellRef}
use Rattle.cosem_data.specs.declared.name.LogicalName.{LogicalName}
use Rattle.meter_theory.specs.Lists.{IsIn, for_some}
use Rattle.meter_theory.specs.Menus.{script_ref_value}
use Rattle.meter_theory.specs.Value.{elements, count_of}
use Rattle.meter_theory.specs.Times.{clock_moment, is_capture_due, is_schedule_due}
use Rattle.meter_theory.specs.State.{State, value}
use Rattle.meter_theory.specs.declared.refs.UpDown.{UpDown}
use Rattle.meter_theory.specs.Plan.{Plan, Object, Part, ProfileGeneric, RegisterMonitor, SingleActionSchedule, capture_period, thresholds, seen, executed_script, execution_time, object_at, clock_object, clock_time, told_clock, clock_cell, clock}
use Rattle.meter_theory.specs.Steps.{Effect, Put, Capture, effects_of_script, due_scripts, Step, CaptureAt, Evaluate, ScheduleAt, present, captured_at, evaluated, scheduled_at, effects_of}
use Rattle.meter_theory.specs.declared.flow.Cause.{Cause}
use Rattle.meter_theory.specs.declared.flow.Cause.TheVariants.{Monitor, Menu, Period, Schedule, Clock}
use Rattle.meter_theory.specs.Edges.{Agree, IsClosed, edge, IsEdge, EdgeIn, monitor_changes}
use Rattle.meter_theory.specs.Notice.{put_by_capture, put_by_monitor, put_by_schedule, behind_guards}
use Rattle.meter_theory.proofs.Agreement.{object-found}
use Rattle.meter_theory.proofs.Menus.{chosen-alike}

-- an edge that the object of a name makes
pub edge_at : (P : Plan) (n : LogicalName) (o : Object) → object_at P n ≡ Some o → (cause : Cause) (x y : CellRef) → EdgeIn P n o.part cause x y → IsEdge P (edge cause x y)
edge_at P n o is cause x y e =
    let at = object-found P n o is in
    (o, at.0, subst (λ m. EdgeIn P m o.part cause x y) (sym at.1) e)

module _ (P : Plan) (S : CellRef → Bool) (closed : IsClosed P S) (s t : State) (agree : Agree S s t) where
  -- S holds the clock, where it holds a cell to which an object's edges from the clock lead
  clock_inside : (n : LogicalName) (o : Object) → object_at P n ≡ Some o → (y : CellRef) → ((x : CellRef) → IsIn (told_clock P) x → EdgeIn P n o.part Clock x y) →
      S y ≡ true → S (clock P) ≡ true
  clock_inside n o is y leads h = at (clock_object P) refl
    where
      at : (c : Option Object) → clock_object P ≡ c → S (clock_cell c) ≡ true
      at None e = closed.holds_clock e
      at (Some k) e =
          let told : IsIn (told_clock P) (clock_time k.name) = subst (λ z. IsIn (for_some z (λ q. clock_time q.name ∷ [])) (clock_time k.name)) (sym e) (inl refl) in
          closed.edges (edge Clock (clock_time k.name) y) (edge_at P n o is Clock (clock_time k.name) y (leads (clock_time k.name) told)) h

  pub same_present : S (clock P) ≡ true → present P s ≡ present P t
  same_present h = ap clock_moment (agree (clock P) h)

  -- what is at the source of an edge into S
  source-same : (n : LogicalName) (o : Object) → object_at P n ≡ Some o → (cause : Cause) (y x : CellRef) → EdgeIn P n o.part cause y x → S x ≡ true →
      value s y ≡ value t y
  source-same n o is cause y x e h = agree y (closed.edges (edge cause y x) (edge_at P n o is cause y x e) h)

  pub captured-same : (n : LogicalName) (o : Object) → object_at P n ≡ Some o → (part : Part) → o.part ≡ part →
      (x : CellRef) → IsIn (put_by_capture n part) x → S x ≡ true → captured_at s n (present P s) part ≡ captured_at t n (present P t) part
  captured-same n o is (ProfileGeneric captured period entries) h x i e =
      ap₂ (λ v moment. cond (is_capture_due (count_of v) moment) (Capture n ∷ []) [])
      (source-same n o is Period (capture_period n) x (subst (λ p. EdgeIn P n p Period (capture_period n) x) (sym h) (refl, i)) e)
      (same_present (clock_inside n o is x (λ y told. subst (λ p. EdgeIn P n p Clock y x) (sym h) (told, i)) e))
  captured-same n o is _ h x i e = absurd i

  pub scheduled-same : (n : LogicalName) (o : Object) → object_at P n ≡ Some o → (part : Part) → o.part ≡ part →
      (x : CellRef) → IsIn (put_by_schedule P part) x → S x ≡ true → scheduled_at P s n (present P s) part ≡ scheduled_at P t n (present P t) part
  scheduled-same n o is (SingleActionSchedule script type times) h x i e =
      ap₂ (λ b r. cond b (effects_of_script P r) [])
      (ap₂ (λ v moment. is_schedule_due (elements v) moment)
      (source-same n o is Schedule (execution_time n) x (subst (λ p. EdgeIn P n p Schedule (execution_time n) x) (sym h) (refl, i)) e)
      (same_present (clock_inside n o is x (λ y told. subst (λ p. EdgeIn P n p Clock y x) (sym h) (told, i)) e)))
      (chosen-alike script_ref_value script (value s (executed_script n)) (value t (executed_script n)) (λ menu.
      source-same n o is Menu (executed_script n) x (subst (λ p. EdgeIn P n p Menu (executed_script n) x) (sym h) (menu, refl, i)) e))
  scheduled-same n o is _ h x i e = absurd i

  -- a monitor's thresholds, seen and monitored value
  pub monitored-same : (n : LogicalName) (o : Object) → object_at P n ≡ Some o → (monitored : CellRef) (th : Tree) (actions : List UpDown) →
      o.part ≡ RegisterMonitor monitored th actions → (x : CellRef) → IsIn (monitor_changes P actions) x → S x ≡ true →
      (y : CellRef) → IsIn (monitored ∷ thresholds n ∷ seen n ∷ []) y → value s y ≡ value t y
  monitored-same n o is monitored th actions h x i e y j =
      source-same n o is Monitor y x (subst (λ p. EdgeIn P n p Monitor y x) (sym h) (j, i)) e

  pub evaluated-same : (n : LogicalName) (o : Object) → object_at P n ≡ Some o → (part : Part) → o.part ≡ part →
      (x : CellRef) → IsIn (put_by_monitor P part) x → S x ≡ true → evaluated P s n part ≡ evaluated P t n part
  evaluated-same n o is (RegisterMonitor monitored th actions) h x i e =
      let same = monitored-same n o is monitored th actions h x i e in
      ap (λ v. of_values v (value s (seen n)) (value s monitored)) (same (thresholds n) (inr (inl refl)))
      ∙ (ap (λ v. of_values (value t (thresholds n)) v (value s monitored)) (same (seen n) (inr (inr (inl refl))))
      ∙ ap (λ v. of_values (value t (thresholds n)) (value t (seen n)) v) (same monitored (inl refl)))
    where
      of_values : Tree → Tree → Tree → List Effect
      of_values levels before now = flat_map (effects_of_script P) (due_scripts actions (elements levels) before now) ++ Put (seen n) now ∷ []
  evaluated-same n o is _ h x i e = absurd i

  -- the turn of an object with a cell behind its guards in S
  turn-same : (n : LogicalName) (put : Part → List CellRef) (turn : State → Part → List Effect) →
      ((o : Object) → object_at P n ≡ Some o → (x : CellRef) → IsIn (put o.part) x → S x ≡ true → turn s o.part ≡ turn t o.part) →
      (x : CellRef) → IsIn (for_some (object_at P n) (λ o. put o.part)) x → S x ≡ true →
      for_some (object_at P n) (λ o. turn s o.part) ≡ for_some (object_at P n) (λ o. turn t o.part)
  turn-same n put turn same x i e = at (object_at P n) refl i
    where
      at : (o : Option Object) → object_at P n ≡ o → IsIn (for_some o (λ z. put z.part)) x → for_some o (λ z. turn s z.part) ≡ for_some o (λ z. turn t z.part)
      at None is j = absurd j
      at (Some o) is j = same o is x j e

  pub guarded-same : (step : Step) (x : CellRef) → IsIn (behind_guards P step) x → S x ≡ true → effects_of P s step ≡ effects_of P t step
  guarded-same (CaptureAt n) x i e = turn-same n (put_by_capture n) (λ u part. captured_at u n (present P u) part) (λ o is. captured-same n o is o.part refl) x i e
  guarded-same (Evaluate n) x i e = turn-same n (put_by_monitor P) (λ u part. evaluated P u n part) (λ o is. evaluated-same n o is o.part refl) x i e
  guarded-same (ScheduleAt n) x i e = turn-same n (put_by_schedule P) (λ u part. scheduled_at P u n (present P u) part) (λ o is. scheduled-same n o is o.part refl) x i e
  guarded-same _ x i e = absurd i
