-- What is added to effects, and which effects methods, scripts and a meter's own steps have.
use Rattle.std.specs.Prelude.{◌≡◌, ℕ, ◌+◌, ◌<◌, ◌==◌, Bool, true, false, ◌&&◌, cond, List, [], ◌∷◌, ◌++◌, map, flat_map, find, take, length, get_or, Option, Some, None, option_map, option_and_then, Ok, Err, is_ok, if◌then◌else◌}
use Rattle.std.proofs.Common.{refl, sym, ap, subst, ◌∙◌, zero, suc, arith, inl, inr}
use Rattle.std.proofs.lemmas.Bool.{and_parts, cond-true}
use Rattle.std.proofs.lemmas.List.{map_more, map_push, append_assoc, flat_map_more}
use Rattle.cosem_data.specs.Tree.{Tree, array, no_trees}
use Rattle.cosem_data.specs.Kinds.{kind_of}
use Rattle.cosem_data.specs.declared.cell.CellRef.{CellRef}
use Rattle.cosem_data.specs.declared.cell.MethodRef.{MethodRef}
use Rattle.cosem_data.specs.declared.name.LogicalName.{LogicalName}
use Rattle.cosem_class.specs.Judged.{rule_answer}
use Rattle.meter_theory.specs.Lists.{IsIn, for_some}
use Rattle.meter_theory.specs.declared.refs.ScriptRef.{ScriptRef}
use Rattle.meter_theory.specs.declared.refs.ScalerUnit.{ScalerUnit}
use Rattle.meter_theory.specs.declared.refs.UpDown.{UpDown}
use Rattle.meter_theory.specs.Rights.{Argument, Given, has_valid_tag, script_number}
use Rattle.meter_theory.proofs.Held.{cell_held}
use Rattle.meter_theory.proofs.Rights.{ruled-cell}
use Rattle.meter_theory.specs.declared.access.AccessCode.{AccessCode}
use Rattle.meter_theory.specs.declared.access.AccessCode.TheVariants as codes
use Rattle.meter_theory.specs.Plan.{Plan, Object, Script, Part, Data1, Register, ProfileGeneric, Clock, ScriptTable, RegisterMonitor, SingleActionSchedule, class_of, object_at, rule_in, rule_of, register_value, capture_period, start_values, thresholds, seen, execution_time}
use Rattle.meter_theory.specs.Sound.{IsSound, IsSoundPart}
use Rattle.meter_theory.specs.State.{State, keys, value}
use Rattle.meter_theory.specs.States.{IsState, IsRemembered, Fits, MayStand}
use Rattle.meter_theory.specs.Times.{Moment, is_capture_due, is_schedule_due}
use Rattle.meter_theory.specs.Menus.{Choice}
use Rattle.meter_theory.specs.Value.{Rule, OfKind, Thresholds, meets, valid_tag, valid_content, is_within_limits, elements, count_of}
use Rattle.meter_theory.specs.Steps as theory
use Rattle.meter_theory.specs.Steps.{Captures, captures_in, captures_of, meets_some}
use Rattle.meter_theory.proofs.Agreement.{object-found}
use Rattle.class_control.specs.ScriptView.{script_of}
use Rattle.class_control.specs.declared.script.Script as code
use Rattle.object_model.specs.PartView.{part_of}
use Rattle.object_model.specs.declared.part.Part as code_part
use Rattle.object_model.specs.declared.part.Part.TheVariants as parts
use Rattle.class_control.specs.declared.parts.ScriptTablePart.{ScriptTablePart}
use Rattle.object_model.specs.InstanceView.{AtName}
use Rattle.object_model.specs.EffectView.{effect_of, MayTake, MayTakeAll}
use Rattle.object_model.specs.declared.effect.Effect.{Effect}
use Rattle.meter_effects.specs.Adds.{Adds, StandsFor}

-- Lists of effects

pub may_take-push : (P : Plan) (es : List Effect) (e : Effect) → MayTakeAll P es → MayTake P e → MayTakeAll P (es ++ e ∷ [])
may_take-push P [] e all may = (may, tt)
may_take-push P (f ∷ es) e all may = (all.0, may_take-push P es e all.1 may)

pub adds_one : (P : Plan) (before after : List Effect) (e : Effect) → after ≡ before ++ e ∷ [] → MayTake P e → Adds P (effect_of e ∷ []) before after
adds_one P before after e is may = record {
  effects = ap (map effect_of) is ∙ map_push effect_of before e;
  fits = λ all. subst (MayTakeAll P) (sym is) (may_take-push P before e all may);
}

-- what was added to no effects
pub stands_for : (P : Plan) (added meant : List theory.Effect) (before list : List Effect) → before ≡ [] → added ≡ meant → Adds P added before list → StandsFor P meant list
stands_for P added meant before list none is adds = record {
  effects = adds.effects ∙ (ap (λ xs. map effect_of xs ++ added) none ∙ is);
  fits = adds.fits (subst (MayTakeAll P) (sym none) tt);
}

pub adds_more : (P : Plan) (added more : List theory.Effect) (a b d : List Effect) → Adds P added a b → Adds P more b d → Adds P (added ++ more) a d
adds_more P added more a b d first second = record {
  effects = second.effects ∙ (ap (λ xs. xs ++ more) first.effects ∙ append_assoc (map effect_of a) added more);
  fits = λ all. second.fits (first.fits all);
}

-- the effects of one element more
pub flat_map-more : {A B E : Type 0} (f : B → List E) (g : A → B) (xs : List A) (i : ℕ) (x : A) → i < length xs → x ≡ get_or xs i x →
    flat_map f (map g (take i xs)) ++ f (g x) ≡ flat_map f (map g (take (i + 1) xs))
flat_map-more f g xs i x within is =
    ap (λ y. flat_map f (map g (take i xs)) ++ f (g y)) is
    ∙ (flat_map_more f [] (map g (take i xs)) (g (get_or xs i x))
    ∙ ap (flat_map f) (sym (map_more g xs i x within)))

append-empty : {A : Type 0} (xs ys : List A) → xs ++ ys ≡ [] → (xs ≡ []) × (ys ≡ [])
append-empty [] ys h = (refl, h)
append-empty (x ∷ xs) ys h = cc

-- where a list has no effects, none of its elements has one
pub nothing_at : {A B E : Type 0} (f : B → List E) (g : A → B) (xs : List A) (i : ℕ) (x : A) → i < length xs → x ≡ get_or xs i x → flat_map f (map g xs) ≡ [] → f (g x) ≡ []
nothing_at f g [] i x within is none = absurd (omega arith)
nothing_at f g (y ∷ xs) zero x within is none = ap (λ z. f (g z)) is ∙ (append-empty (f (g y)) (flat_map f (map g xs)) none).0
nothing_at f g (y ∷ xs) (suc i) x within is none = nothing_at f g xs i x (omega arith) is (append-empty (f (g y)) (flat_map f (map g xs)) none).1

-- Methods

-- the default of a register may stand in its value
pub default_may_stand : (P : Plan) (o : Object) (first default : Tree) (scaler_unit : ScalerUnit) → IsSound P → object_at P o.name ≡ Some o → o.part ≡ Register first default scaler_unit →
    MayStand P (register_value o.name) default
default_may_stand P o first default scaler_unit sound is part =
    (OfKind (kind_of first), rule, subst (IsSoundPart P) part (sound.parts o (object-found P o.name o is).0))
  where
    rule : rule_of P (register_value o.name) ≡ Some (OfKind (kind_of first))
    rule =
        ap (option_and_then (λ z. cond (class_of z.part == 3) (rule_in P z.part 2) None)) is
        ∙ ap (λ p. cond (class_of p == 3) (rule_in P p 2) None) part

-- the object that a name leads to is found by its own name
pub found_there : (P : Plan) (n : LogicalName) (i : AtName) (o : Object) → i ≡ record { plan = P; name = n } → Some o ≡ object_at i.plan i.name → Some o ≡ object_at P n
found_there P n i o is h = h ∙ ap (λ j. object_at j.plan j.name) is

pub found_again : (P : Plan) (n : LogicalName) (o : Object) → Some o ≡ object_at P n → object_at P o.name ≡ Some o
found_again P n o is = ap (object_at P) (object-found P n o (sym is)).1 ∙ sym is

-- the plain method of an object that a name leads to
pub plain_effects : (P : Plan) (m : MethodRef) (o : Object) → Some o ≡ object_at P m.name → theory.plain_method o.name o.part m.index ≡ theory.plain_method_of P m
plain_effects P m o is =
    ap (λ n. theory.plain_method n o.part m.index) (object-found P m.name o (sym is)).1
    ∙ ap (λ f. for_some f (λ z. theory.plain_method m.name z.part m.index)) is

-- Scripts

find-map : {A B : Type 0} (f : A → B) (test : B → Bool) (xs : List A) → option_map f (find (λ x. test (f x)) xs) ≡ find test (map f xs)
find-map f test [] = refl
find-map f test (x ∷ xs) = elim (test (f x)) as (λ b. option_map f (cond b (Some x) (find (λ z. test (f z)) xs)) ≡ cond b (Some (f x)) (find test (map f xs))) [
  | true ↦ refl
  | false ↦ find-map f test xs
]

-- a script that is found in the code is found in the table
pub script_found : {R : Type 0} (f : R → code.Script) (r : Option R) (scripts : List code.Script) (id : ℕ) → option_map f r ≡ find (λ s. s.id == id) scripts →
    option_map (λ s. script_of (f s)) r ≡ find (λ s. s.id == id) (map script_of scripts)
script_found f None scripts id h = ap (option_map script_of) h ∙ find-map script_of (λ s. s.id == id) scripts
script_found f (Some s) scripts id h = ap (option_map script_of) h ∙ find-map script_of (λ s. s.id == id) scripts

-- Own steps

-- a capture that is due
pub capture_meant : (P : Plan) (s : State) (n : LogicalName) (t : Moment) (c : Captures) → t ≡ theory.present P s → Some c ≡ captures_of (object_at P n) → is_capture_due (count_of (value s (capture_period n))) t ≡ true →
    theory.Capture n ∷ [] ≡ theory.effects_of P s (theory.CaptureAt n)
capture_meant P s n t c present is due = at (object_at P n) is ∙ ap (λ u. for_some (object_at P n) (λ z. theory.captured_at s n u z.part)) present
  where
    in_part : (part : Part) → Some c ≡ captures_in part → theory.Capture n ∷ [] ≡ theory.captured_at s n t part
    in_part (ProfileGeneric captured period entries) e = sym (cond-true (is_capture_due (count_of (value s (capture_period n))) t) (theory.Capture n ∷ []) [] due)
    in_part (Data1 first) e = cc
    in_part (Register first default scaler_unit) e = cc
    in_part (Clock first) e = cc
    in_part (ScriptTable scripts) e = cc
    in_part (RegisterMonitor monitored th actions) e = cc
    in_part (SingleActionSchedule script type times) e = cc

    at : (o : Option Object) → Some c ≡ captures_of o → theory.Capture n ∷ [] ≡ for_some o (λ z. theory.captured_at s n t z.part)
    at None e = cc
    at (Some o) e = in_part o.part e

-- the script of a schedule whose time has come
pub schedule_meant : (P : Plan) (s : State) (n : LogicalName) (t : Moment) (o : Object) (script : Choice ScriptRef) (type : ℕ) (times : Tree) → t ≡ theory.present P s → Some o ≡ object_at P n →
    o.part ≡ SingleActionSchedule script type times → is_schedule_due (elements (value s (execution_time n))) t ≡ true →
    theory.effects_of_script P (theory.script_now s n script) ≡ theory.effects_of P s (theory.ScheduleAt n)
schedule_meant P s n t o script type times present is part due =
    sym (cond-true (is_schedule_due (elements (value s (execution_time n))) t) (theory.effects_of_script P (theory.script_now s n script)) [] due)
    ∙ sym (ap (theory.scheduled_at P s n t) part)
    ∙ ap (λ f. for_some f (λ z. theory.scheduled_at P s n t z.part)) is
    ∙ ap (λ u. for_some (object_at P n) (λ z. theory.scheduled_at P s n u z.part)) present

-- what an evaluation means
pub evaluation_meant : (P : Plan) (s : State) (n : LogicalName) (o : Object) (monitored : CellRef) (th : Tree) (actions : List UpDown) → Some o ≡ object_at P n → o.part ≡ RegisterMonitor monitored th actions →
    flat_map (theory.effects_of_script P) (theory.due_scripts actions (elements (value s (thresholds n))) (value s (seen n)) (value s monitored)) ++ theory.Put (seen n) (value s monitored) ∷ []
    ≡ theory.effects_of P s (theory.Evaluate n)
evaluation_meant P s n o monitored th actions is part =
    sym (ap (theory.evaluated P s n) part) ∙ ap (λ f. for_some f (λ z. theory.evaluated P s n z.part)) is

-- the thresholds of a monitor are those of its actions
pub thresholds_fit : (P : Plan) (s : State) (n : LogicalName) (o : Object) (monitored : CellRef) (th : Tree) (actions : List UpDown) → IsState P s → Some o ≡ object_at P n →
    o.part ≡ RegisterMonitor monitored th actions → meets (Thresholds (length actions) (kind_of (value (start_values P) monitored))) (value s (thresholds n)) ≡ true
thresholds_fit P s n o monitored th actions k is part = k.settable (thresholds n) there (Thresholds (length actions) (kind_of (value (start_values P) monitored))) rule
  where
    rule : rule_of P (thresholds n) ≡ Some (Thresholds (length actions) (kind_of (value (start_values P) monitored)))
    rule =
        ap (option_and_then (λ z. cond (class_of z.part == 21) (rule_in P z.part 2) None)) (sym is)
        ∙ ap (λ p. cond (class_of p == 21) (rule_in P p 2) None) part

    there : IsIn (keys s) (thresholds n)
    there = subst (λ ks. IsIn ks (thresholds n)) (sym k.cells)
        (cell_held P (thresholds n) (ruled-cell P (thresholds n) (Given (array no_trees)) (subst (λ r. has_valid_tag r (Given (array no_trees)) ≡ true) (sym rule) refl)))

-- the monitored value keeps its kind
pub monitored_fits : (P : Plan) (s : State) (n : LogicalName) (o : Object) (monitored : CellRef) (th : Tree) (actions : List UpDown) → IsSound P → IsState P s → Some o ≡ object_at P n →
    o.part ≡ RegisterMonitor monitored th actions → meets (OfKind (kind_of (value (start_values P) monitored))) (value s monitored) ≡ true
monitored_fits P s n o monitored th actions sound k is part =
    let there = object-found P n o (sym is) in
    let fine : IsSoundPart P (RegisterMonitor monitored th actions) = subst (IsSoundPart P) part (sound.parts o there.0) in
    k.settable monitored (subst (λ ks. IsIn ks monitored) (sym k.cells) (cell_held P monitored fine.0)) (OfKind (kind_of (value (start_values P) monitored))) fine.1

-- and may be remembered
pub remember_may : (P : Plan) (n : LogicalName) (o : Object) (monitored : CellRef) (th : Tree) (actions : List UpDown) (v : Tree) → Some o ≡ object_at P n → o.part ≡ RegisterMonitor monitored th actions →
    meets (OfKind (kind_of (value (start_values P) monitored))) v ≡ true → Fits P (theory.Put (seen n) v)
remember_may P n o monitored th actions v is part fits =
    let there = object-found P n o (sym is) in
    inr (inl (o, there.0, subst (λ p. IsRemembered P o.name p (seen n) v) (sym part) (ap seen (sym there.1), inr fits)))

-- a rule that a value passes
pub passes-meets : (r : Option Rule) (v : Tree) → is_ok (rule_answer r v) ≡ meets_some r v
passes-meets None v = refl
passes-meets (Some rule) v = at (valid_tag rule v) (is_within_limits v && valid_content rule v)
  where
    at : (tag rest : Bool) → is_ok {T = Unit {0}} {E = AccessCode} (if tag then (if (tag && rest) then Ok tt else Err codes.OtherReason) else Err codes.TypeUnmatched) ≡ (tag && rest)
    at true true = refl
    at true false = refl
    at false rest = refl

pub meets-may_stand : (P : Plan) (x : CellRef) (v : Tree) → meets_some (rule_of P x) v ≡ true → MayStand P x v
meets-may_stand P x v h = at (rule_of P x) refl h
  where
    at : (r : Option Rule) → rule_of P x ≡ r → meets_some r v ≡ true → MayStand P x v
    at None is e = cc
    at (Some rule) is e = (rule, is, e)

-- an input that is taken
pub input_meant : (P : Plan) (s : State) (x : CellRef) (v : Tree) → (theory.is_fed P x && meets_some (rule_of P x) v) ≡ true → theory.Put x v ∷ [] ≡ theory.effects_of P s (theory.Input x v)
input_meant P s x v both = sym (cond-true (theory.is_fed P x && meets_some (rule_of P x) v) (theory.Put x v ∷ []) [] both)

pub input_may : (P : Plan) (x : CellRef) (v : Tree) → (theory.is_fed P x && meets_some (rule_of P x) v) ≡ true → MayStand P x v
input_may P x v both = meets-may_stand P x v (and_parts (theory.is_fed P x) (meets_some (rule_of P x) v) both).1

-- the method of an object other than a script table
pub other_method : (P : Plan) (m : MethodRef) (argument : Argument) (o : Object) → Some o ≡ object_at P m.name → ((scripts : List Script) → o.part ≡ ScriptTable scripts → ⊥) →
    theory.plain_method o.name o.part m.index ≡ theory.method_effects P m argument
other_method P m argument o is other =
    ap (λ n. theory.plain_method n o.part m.index) (object-found P m.name o (sym is)).1
    ∙ (in_part o.part other
    ∙ ap (λ f. for_some f (λ z. theory.method_in P m z.part (script_number argument))) is)
  where
    in_part : (part : Part) → ((scripts : List Script) → part ≡ ScriptTable scripts → ⊥) → theory.plain_method m.name part m.index ≡ theory.method_in P m part (script_number argument)
    in_part (ScriptTable scripts) apart = absurd (apart scripts refl)
    in_part _ apart = refl

-- a part that is no script table means none
pub no_table : (q : code_part.Part) → ((p : ScriptTablePart) → q ≡ parts.ScriptTable p → ⊥) → (o : Object) → part_of q ≡ o.part → (scripts : List Script) → o.part ≡ ScriptTable scripts → ⊥
no_table q apart o same scripts is = at q apart (same ∙ is)
  where
    at : (r : code_part.Part) → ((p : ScriptTablePart) → r ≡ parts.ScriptTable p → ⊥) → part_of r ≡ ScriptTable scripts → ⊥
    at (parts.Data first) h e = cc
    at (parts.Register p) h e = cc
    at (parts.ProfileGeneric p) h e = cc
    at (parts.Clock p) h e = cc
    at (parts.ScriptTable p) h e = h p refl
    at (parts.RegisterMonitor p) h e = cc
    at (parts.SingleActionSchedule p) h e = cc

-- effects that stand for none are none
pub none_stands : (es : List Effect) → map effect_of es ≡ [] → es ≡ []
none_stands [] h = refl
none_stands (e ∷ es) h = cc
