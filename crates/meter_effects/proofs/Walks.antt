-- Walks, one behind another, and which effects they come to.
use Rattle.std.proofs.Common.{◌≡◌, ◌<◌, ◌+◌, ◌∙◌, ℕ, List, [], ◌∷◌, ◌++◌, length, take, flat_map, get_or, Some, refl, sym, ap, subst}
use Rattle.std.specs.List.{FoldsTo}
use Rattle.std.proofs.lemmas.Grind.{flat_map-append}
use Rattle.std.proofs.lemmas.List.{append-nil, take_more}
use Rattle.cosem_data.specs.declared.cell.MethodRef.{MethodRef}
use Rattle.meter_theory.specs.declared.refs.UpDown.{UpDown}
use Rattle.meter_theory.specs.Edges.{scripts_effects, scripts_named}
use Rattle.meter_theory.specs.Labels.{all_scripts, calls_in, calls_effects}
use Rattle.meter_theory.specs.Lists.{for_some}
use Rattle.meter_theory.specs.Plan.{Plan, Object, Part, Script, ScriptTable, object_at}
use Rattle.meter_theory.specs.Steps as theory
use Rattle.meter_theory.proofs.Agreement.{object-found}

module _ {V E : Type 0} (meets : V → E → V → Type 0) where
  -- a walk of one effect
  pub walks_one : (a : V) (e : E) (b : V) → meets a e b → FoldsTo meets a (e ∷ []) b
  walks_one a e b m = (b, m, refl)

  -- a walk, and behind it another
  pub walks_on : (a : V) (xs : List E) (b : V) (ys : List E) (c : V) → FoldsTo meets a xs b → FoldsTo meets b ys c → FoldsTo meets a (xs ++ ys) c
  walks_on a [] b ys c p q = subst (λ v. FoldsTo meets v ys c) (sym p) q
  walks_on a (x ∷ xs) b ys c p q = (p.0, p.1, walks_on p.0 xs b ys c p.2 q)

  -- the same, where both together are known
  pub walks_along : (a : V) (xs : List E) (b : V) (ys : List E) (c : V) (zs : List E) → xs ++ ys ≡ zs → FoldsTo meets a xs b → FoldsTo meets b ys c → FoldsTo meets a zs c
  walks_along a xs b ys c zs is p q = subst (λ es. FoldsTo meets a es c) is (walks_on a xs b ys c p q)

-- what one element more gives
pub next_given : {A E : Type 0} (f : A → List E) (xs : List A) (i : ℕ) (d : A) → i < length xs → flat_map f (take i xs) ++ f (get_or xs i d) ≡ flat_map f (take (i + 1) xs)
next_given f xs i d within =
    ap (λ ys. flat_map f (take i xs) ++ ys) (sym (append-nil (f (get_or xs i d))))
    ∙ sym (flat_map-append f (take i xs) (get_or xs i d ∷ []))
    ∙ ap (flat_map f) (sym (take_more xs i d within))

-- the effects of the scripts of one action more
pub action_given : (P : Plan) (actions : List UpDown) (i : ℕ) (d : UpDown) → i < length actions →
    scripts_effects P (scripts_named (take i actions)) ++ (theory.effects_of_script P (get_or actions i d).up ++ theory.effects_of_script P (get_or actions i d).down)
    ≡ scripts_effects P (scripts_named (take (i + 1) actions))
action_given P actions i d within =
    let a = get_or actions i d in
    ap (λ es. scripts_effects P (scripts_named (take i actions)) ++ (theory.effects_of_script P a.up ++ es)) (sym (append-nil (theory.effects_of_script P a.down)))
    ∙ sym (flat_map-append (theory.effects_of_script P) (scripts_named (take i actions)) (a.up ∷ a.down ∷ []))
    ∙ ap (scripts_effects P) (next_given (λ b. b.up ∷ b.down ∷ []) actions i d within)

-- the calls of a method of an object other than a script table
pub other_calls : (P : Plan) (m : MethodRef) (o : Object) → Some o ≡ object_at P m.name → ((scripts : List Script) → o.part ≡ ScriptTable scripts → ⊥) →
    theory.plain_method o.name o.part m.index ≡ calls_effects P m
other_calls P m o is other =
    ap (λ n. theory.plain_method n o.part m.index) (object-found P m.name o (sym is)).1
    ∙ (in_part o.part other
    ∙ ap (λ f. for_some f (λ z. calls_in P m z.part)) is)
  where
    in_part : (part : Part) → ((scripts : List Script) → part ≡ ScriptTable scripts → ⊥) → theory.plain_method m.name part m.index ≡ calls_in P m part
    in_part (ScriptTable scripts) apart = absurd (apart scripts refl)
    in_part _ apart = refl

-- the calls of execute
pub table_calls : (P : Plan) (m : MethodRef) (o : Object) (scripts : List Script) → Some o ≡ object_at P m.name → o.part ≡ ScriptTable scripts → all_scripts P scripts ≡ calls_effects P m
table_calls P m o scripts is part = ap (calls_in P m) (sym part) ∙ ap (λ f. for_some f (λ z. calls_in P m z.part)) is
