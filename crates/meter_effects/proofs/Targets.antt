-- Where the targets of scripts stand.
use Rattle.std.proofs.Common.{◌≡◌, ◌<◌, ◌≤◌, ◌+◌, ◌∙◌, ℕ, zero, suc, Bool, true, false, cond, List, [], ◌∷◌, ◌++◌, length, take, map, flat_map, find, get_or, Option, Some, None, refl, sym, ap, arith, Bor, length-append, leb-true, nat_le}
use Rattle.std.specs.Prelude.{All, IfSome, slice_get, option_map}
use Rattle.std.specs.List.{list_all}
use Rattle.std.proofs.lemmas.Bool.{and_parts}
use Rattle.std.proofs.lemmas.Grind.{flat_map-append}
use Rattle.std.proofs.lemmas.List.{append-nil, length-map, map-append, take_more}
use Rattle.std.proofs.lemmas.List.Elements.{All-nil, All-cons}
use Rattle.std.proofs.lemmas.Option.{slice_get-map, slice_get-get_or}
use Rattle.cosem_data.specs.declared.name.LogicalName.{LogicalName}
use Rattle.meter_theory.specs.Lists.{for_some}
use Rattle.meter_theory.specs.Plan.{Plan, Object, ScriptTable, object_at}
use Rattle.meter_theory.specs.Sound.{IsSound, has_part_sizes, has_script_sizes, has_action_sizes, is_name}
use Rattle.meter_theory.specs.declared.limits.TheConstants as limits
use Rattle.meter_theory.proofs.Agreement.{object-found}
use Rattle.class_control.specs.ActionView.{action_of}
use Rattle.class_control.specs.ScriptView.{script_of}
use Rattle.class_control.specs.declared.action.Action as code
use Rattle.class_control.specs.declared.script.Script.{Script}
use Rattle.object_model.specs.InstanceView.{AtName}
use Rattle.cosem_class.specs.Parts.{references, target}
use Rattle.object_model.specs.Tables.{references_at}
use Rattle.meter_effects.specs.Targets.{AreFew, AreTargets, StartsAt}

get-left : {A : Type 0} (xs ys : List A) (k : ℕ) (x : A) → slice_get xs k ≡ Some x → slice_get (xs ++ ys) k ≡ Some x
get-left [] ys k x h = cc
get-left (z ∷ xs) ys zero x h = h
get-left (z ∷ xs) ys (suc k) x h = get-left xs ys k x h

get-right : {A : Type 0} (xs ys : List A) (k : ℕ) → slice_get (xs ++ ys) (length xs + k) ≡ slice_get ys k
get-right [] ys k = let same : 0 + k ≡ k = omega arith in ap (slice_get ys) same
get-right (x ∷ xs) ys k =
    let same : length (x ∷ xs) + k ≡ suc (length xs + k) = omega arith in
    ap (slice_get (x ∷ xs ++ ys)) same ∙ get-right xs ys k

-- what an element gives stands behind what those before it give
pub starts-at : {A B : Type 0} (f : A → List B) (xs : List A) (i : ℕ) (x : A) → i < length xs → x ≡ get_or xs i x → (k : ℕ) (b : B) → slice_get (f x) k ≡ Some b →
    slice_get (flat_map f xs) (length (flat_map f (take i xs)) + k) ≡ Some b
starts-at f [] i x within is k b h = absurd (omega arith)
starts-at f (y ∷ ys) zero x within is k b h =
    let same : 0 + k ≡ k = omega arith in
    ap (slice_get (f y ++ flat_map f ys)) same ∙ get-left (f y) (flat_map f ys) k b (ap (λ z. slice_get (f z) k) (sym is) ∙ h)
starts-at f (y ∷ ys) (suc i) x within is k b h =
    let same : length (f y ++ flat_map f (take i ys)) + k ≡ length (f y) + (length (flat_map f (take i ys)) + k) = omega (arith, length-append (f y) (flat_map f (take i ys))) in
    ap (slice_get (f y ++ flat_map f ys)) same
    ∙ get-right (f y) (flat_map f ys) (length (flat_map f (take i ys)) + k)
    ∙ starts-at f ys i x (omega arith) is k b h

pub grown : {A B : Type 0} (f : A → List B) (xs : List A) (i : ℕ) (x : A) → i < length xs → x ≡ get_or xs i x →
    length (flat_map f (take i xs)) + length (f x) ≡ length (flat_map f (take (i + 1) xs))
grown f xs i x within is =
    sym (ap (λ ys. length (flat_map f ys)) (take_more xs i x within)
    ∙ ap length (flat_map-append f (take i xs) (get_or xs i x ∷ []) ∙ ap (λ ys. flat_map f (take i xs) ++ ys) (append-nil (f (get_or xs i x))))
    ∙ length-append (flat_map f (take i xs)) (f (get_or xs i x))
    ∙ ap (λ y. length (flat_map f (take i xs)) + length (f y)) (sym is))

-- what is found first
pub finds : {A : Type 0} (test : A → Bool) (xs : List A) (i : ℕ) (x : A) → i < length xs → x ≡ get_or xs i x → find test (take i xs) ≡ None → test x ≡ true → find test xs ≡ Some x
finds test [] i x within is none h = absurd (omega arith)
finds test (y ∷ ys) zero x within is none h = ap (λ b. cond b (Some y) (find test ys)) (ap test (sym is) ∙ h) ∙ ap Some (sym is)
finds test (y ∷ ys) (suc i) x within is none h = at (λ e. finds test ys i x (omega arith) is e h) (test y) none
  where
    at : (find test (take i ys) ≡ None → find test ys ≡ Some x) → (b : Bool) → cond b (Some y) (find test (take i ys)) ≡ None → cond b (Some y) (find test ys) ≡ Some x
    at later true e = cc
    at later false e = later e

pub finds-none : {A : Type 0} (test : A → Bool) (xs : List A) (i : ℕ) (x : A) → i < length xs → x ≡ get_or xs i x → find test (take i xs) ≡ None → test x ≡ false → find test (take (i + 1) xs) ≡ None
finds-none test [] i x within is none h = absurd (omega arith)
finds-none test (y ∷ ys) zero x within is none h = ap (λ b. cond b (Some y) None) (ap test (sym is) ∙ h)
finds-none test (y ∷ ys) (suc i) x within is none h =
    let same : suc i + 1 ≡ suc (i + 1) = omega arith in
    ap (λ n. find test (take n (y ∷ ys))) same ∙ at (λ e. finds-none test ys i x (omega arith) is e h) (test y) none
  where
    at : (find test (take i ys) ≡ None → find test (take (i + 1) ys) ≡ None) → (b : Bool) → cond b (Some y) (find test (take i ys)) ≡ None → cond b (Some y) (find test (take (i + 1) ys)) ≡ None
    at later true e = cc
    at later false e = later e

target-actions : (scripts : List Script) → references (ScriptTable (map script_of scripts)) ≡ map target (flat_map (λ s. map action_of s.actions.items) scripts)
target-actions [] = refl
target-actions (s ∷ scripts) =
    ap (λ ns. map target (map action_of s.actions.items) ++ ns) (target-actions scripts)
    ∙ sym (map-append target (map action_of s.actions.items) (flat_map (λ s. map action_of s.actions.items) scripts))

-- the targets of a script of a table
pub are_targets : (i : AtName) (o : Object) (scripts : List Script) (start : ℕ) (script : Script) → Some o ≡ object_at i.plan i.name → o.part ≡ ScriptTable (map script_of scripts) →
    StartsAt scripts start script → AreTargets i start (map action_of script.actions.items)
are_targets i o scripts start script is part starts = λ k action h.
    ap (λ f. slice_get (for_some f (λ o. references o.part)) (start + k)) (sym is)
    ∙ ap (λ p. slice_get (references p) (start + k)) part
    ∙ ap (λ ns. slice_get ns (start + k)) (target-actions scripts)
    ∙ slice_get-map target (flat_map (λ s. map action_of s.actions.items) scripts) (start + k)
    ∙ ap (option_map target) (starts k action h)

few-actions : (scripts : List Script) → list_all has_script_sizes (map script_of scripts) ≡ true → All (λ s. length s.actions.items ≤ limits.ACTIONS) scripts
few-actions [] h = All-nil (λ s. length s.actions.items ≤ limits.ACTIONS)
few-actions (s ∷ scripts) h =
    let parts = and_parts (has_script_sizes (script_of s)) (list_all has_script_sizes (map script_of scripts)) h in
    let few = leb-true (length (map action_of s.actions.items)) limits.ACTIONS (and_parts (nat_le (length (map action_of s.actions.items)) limits.ACTIONS) (list_all has_action_sizes (map action_of s.actions.items)) parts.0).0 in
    All-cons (λ s. length s.actions.items ≤ limits.ACTIONS) s scripts (omega (arith, few, length-map s.actions.items action_of)) (few-actions scripts parts.1)

-- a table of a sound plan has few scripts, of few actions
pub are_few : (P : Plan) (n : LogicalName) (o : Object) (scripts : List Script) → IsSound P → Some o ≡ object_at P n → o.part ≡ ScriptTable (map script_of scripts) → AreFew scripts
are_few P n o scripts sound is part =
    let sizes = and_parts (is_name o.name) (has_part_sizes o.part) (sound.sizes o (object-found P n o (sym is)).0) in
    let parts = and_parts (nat_le (length (map script_of scripts)) limits.SCRIPTS) (list_all has_script_sizes (map script_of scripts)) (ap has_part_sizes (sym part) ∙ sizes.1) in
    record {
      few = omega (arith, leb-true (length (map script_of scripts)) limits.SCRIPTS parts.0, length-map scripts script_of);
      short = few-actions scripts parts.1;
    }

-- what a reference leads to
pub is_referred : (i t : AtName) (place : ℕ) (n : LogicalName) → Some t ≡ option_map (λ name. record { plan = i.plan; name = name }) (slice_get (references_at i.plan i.name) place) →
    slice_get (references_at i.plan i.name) place ≡ Some n → t ≡ record { plan = i.plan; name = n }
is_referred i t place n is there = same (is ∙ ap (option_map (λ name. record { plan = i.plan; name = name })) there)
  where
    same : Some t ≡ Some (record { plan = i.plan; name = n }) → t ≡ record { plan = i.plan; name = n }
    same h = cc

-- the target of an action stands where its script's targets do
pub target-there : (i : AtName) (start place : ℕ) (actions : List code.Action) (a : code.Action) → AreTargets i start (map action_of actions) → place < length actions → a ≡ get_or actions place a →
    slice_get (references_at i.plan i.name) (start + place) ≡ Some (target (action_of a))
target-there i start place actions a targets within is =
    targets place (action_of a)
    (slice_get-map action_of actions place ∙ ap (option_map action_of) (slice_get-get_or actions place a within) ∙ ap (λ b. Some (action_of b)) (sym is))

pub targets-if_some : (i : AtName) (o : Object) (scripts : List Script) (r : Option (ℕ × Bor Script)) → Some o ≡ object_at i.plan i.name → o.part ≡ ScriptTable (map script_of scripts) →
    IfSome r (λ s. StartsAt scripts s.0 s.1.now) → IfSome r (λ s. AreTargets i s.0 (map action_of s.1.now.actions.items))
targets-if_some i o scripts None is part starts = starts
targets-if_some i o scripts (Some s) is part starts = are_targets i o scripts s.0 s.1.now is part starts

-- where the targets of all scripts of a table begin
pub table_targets : (i : AtName) (o : Object) (scripts : List Script) → Some o ≡ object_at i.plan i.name → o.part ≡ ScriptTable (map script_of scripts) →
    AreTargets i 0 (flat_map (λ s. map action_of s.actions.items) scripts)
table_targets i o scripts is part = λ k action h.
    let same : 0 + k ≡ k = omega arith in
    ap (λ f. slice_get (for_some f (λ o. references o.part)) (0 + k)) (sym is)
    ∙ ap (λ p. slice_get (references p) (0 + k)) part
    ∙ ap (λ ns. slice_get ns (0 + k)) (target-actions scripts)
    ∙ slice_get-map target (flat_map (λ s. map action_of s.actions.items) scripts) (0 + k)
    ∙ ap (λ n. option_map target (slice_get (flat_map (λ s. map action_of s.actions.items) scripts) n)) same
    ∙ ap (option_map target) h

-- and where those of one of them
pub script_targets : (i : AtName) (scripts : List Script) (index start : ℕ) (s : Script) → AreTargets i 0 (flat_map (λ z. map action_of z.actions.items) scripts) → index < length scripts → s ≡ get_or scripts index s →
    start ≡ length (flat_map (λ z. map action_of z.actions.items) (take index scripts)) → AreTargets i start (map action_of s.actions.items)
script_targets i scripts index start s targets within is begun = λ k action h.
    let same : start + k ≡ 0 + (start + k) = omega arith in
    ap (slice_get (references_at i.plan i.name)) same
    ∙ targets (start + k) action
    (ap (λ n. slice_get (flat_map (λ z. map action_of z.actions.items) scripts) (n + k)) begun ∙ starts-at (λ z. map action_of z.actions.items) scripts index s within is k action h)
