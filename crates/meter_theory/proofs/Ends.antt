-- An edge comes from a cell of the plan.
use Rattle.std.proofs.Common.{◌≡◌, List, [], ◌∷◌, Option, Some, None, refl, sym, ap, subst, inl, inr}
use Rattle.cosem_data.specs.Tree.{Tree, null_data}
use Rattle.cosem_data.specs.declared.cell.CellRef.{CellRef}
use Rattle.meter_theory.specs.declared.refs.UpDown.{UpDown}
use Rattle.meter_theory.specs.declared.flow.Cause.{Cause}
use Rattle.meter_theory.specs.declared.flow.Cause.TheVariants as causes
use Rattle.meter_theory.specs.declared.flow.Edge.{Edge}
use Rattle.meter_theory.specs.Edges.{EdgeIn, IsEdge}
use Rattle.meter_theory.specs.Lists.{IsIn, for_some}
use Rattle.meter_theory.specs.Menus.{capture_objects_value, script_ref_value}
use Rattle.meter_theory.specs.Plan.{Plan, Object, Part, ProfileGeneric, RegisterMonitor, SingleActionSchedule, capture_objects, capture_period, cells, clock_object, clock_time, executed_script, execution_time, seen, start_of, thresholds, told_clock}
use Rattle.meter_theory.specs.Sound.{IsSound, IsSoundPart}
use Rattle.meter_theory.specs.Steps.{captures_in}
use Rattle.meter_theory.specs.Times.{clock_value}
use Rattle.meter_theory.specs.Value.{counter}
use Rattle.meter_theory.proofs.Held.{clock_found}
use Rattle.meter_theory.proofs.Menus.{in_menu, in_period, in_script, in_times}
use Rattle.meter_theory.proofs.Rights.{cell_of_object}

module _ (P : Plan) (sound : IsSound P) where
  told-cell : (x : CellRef) → IsIn (told_clock P) x → IsIn (cells P) x
  told-cell x i = at (clock_object P) refl i
    where
      at : (o : Option Object) → clock_object P ≡ o → IsIn (for_some o (λ z. clock_time z.name ∷ [])) x → IsIn (cells P) x
      at None is none = absurd none
      at (Some o) is (inr none) = absurd none
      at (Some o) is (inl e) =
          let f = clock_found P o is in
          cell_of_object P o x (clock_value f.1.0) f.0
          (subst (λ part. IsIn (start_of o.name part) (x, clock_value f.1.0)) (sym f.1.1) (inl (ap (λ z. (z, clock_value f.1.0)) e)))

  module _ (o : Object) (there : IsIn P.objects o) where
    entry : (part : Part) → o.part ≡ part → (x y : CellRef) (v : Tree) → x ≡ y → IsIn (start_of o.name part) (y, v) → IsIn (cells P) x
    entry part is x y v e i =
        subst (IsIn (cells P)) (sym e) (cell_of_object P o y v there (subst (λ q. IsIn (start_of o.name q) (y, v)) (sym is) i))

    monitored-cell : (monitored : CellRef) (th : Tree) (actions : List UpDown) → o.part ≡ RegisterMonitor monitored th actions → IsIn (cells P) monitored
    monitored-cell monitored th actions is = (subst (IsSoundPart P) is (sound.parts o there)).0

    source-cell : (part : Part) → o.part ≡ part → (cause : Cause) (x y : CellRef) → EdgeIn P o.name part cause x y → IsIn (cells P) x
    source-cell (RegisterMonitor monitored th actions) is causes.Monitored x y i = subst (IsIn (cells P)) (sym i.0) (monitored-cell monitored th actions is)
    source-cell (RegisterMonitor monitored th actions) is causes.Monitor x y i = of_three i.0
      where
        of_three : IsIn (monitored ∷ thresholds o.name ∷ seen o.name ∷ []) x → IsIn (cells P) x
        of_three (inl e) = subst (IsIn (cells P)) (sym e) (monitored-cell monitored th actions is)
        of_three (inr (inl e)) = entry (RegisterMonitor monitored th actions) is x (thresholds o.name) th e (inl refl)
        of_three (inr (inr (inl e))) = entry (RegisterMonitor monitored th actions) is x (seen o.name) null_data e (inr (inl refl))
        of_three (inr (inr (inr none))) = absurd none
    source-cell (ProfileGeneric captured period entries) is causes.Captured x y i =
        (sound.captures o there (record { captured = captured; entries = entries }) (ap captures_in is) x i.0).0
    source-cell (ProfileGeneric captured period entries) is causes.Menu x y i =
        entry (ProfileGeneric captured period entries) is x (capture_objects o.name) (capture_objects_value captured.configured) i.1 (in_menu o.name captured period entries i.0)
    source-cell (ProfileGeneric captured period entries) is causes.Period x y i =
        entry (ProfileGeneric captured period entries) is x (capture_period o.name) (counter period) i.0 (in_period o.name captured period entries)
    source-cell (ProfileGeneric captured period entries) is causes.Clock x y i = told-cell x i.0
    source-cell (SingleActionSchedule script type times) is causes.Schedule x y i =
        entry (SingleActionSchedule script type times) is x (execution_time o.name) times i.0 (in_times o.name script type times)
    source-cell (SingleActionSchedule script type times) is causes.Menu x y i =
        entry (SingleActionSchedule script type times) is x (executed_script o.name) (script_ref_value script.configured) i.1 (in_script o.name script type times i.0)
    source-cell (SingleActionSchedule script type times) is causes.Clock x y i = told-cell x i.0
    source-cell _ is _ x y i = absurd i

  pub edge_source : (e : Edge) → IsEdge P e → IsIn (cells P) e.source
  edge_source e h = source-cell h.0 h.1 h.0.part refl e.cause e.source e.target h.2
