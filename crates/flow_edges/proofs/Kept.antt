-- What is kept of scripts, and which cells several scripts change.
use Rattle.std.proofs.Common.{◌≡◌, ◌==◌, ◌<◌, ◌+◌, ◌++◌, ◌∷◌, [], ◌∙◌, ℕ, zero, suc, List, Option, Some, None, length, map, take, flat_map, find, get_or, sym, ap, refl, arith}
use Rattle.std.specs.Prelude.{Vec, option_map, slice_get}
use Rattle.std.proofs.lemmas.Grind.{flat_map-append}
use Rattle.std.proofs.lemmas.List.{length-map}
use Rattle.std.proofs.lemmas.Option.{slice_get-map, slice_get-get_or}
use Rattle.meter_theory.specs.declared.refs.ScriptRef.{ScriptRef}
use Rattle.cosem_data.specs.Cells.{same_name}
use Rattle.meter_theory.specs.Edges.{script_changes, scripts_effects}
use Rattle.meter_theory.specs.Lists.{for_some}
use Rattle.meter_theory.specs.Plan.{Plan, Object, Script}
use Rattle.meter_theory.specs.Steps.{actions_effects, changed, changed_by, effects_of_script, script_in, scripts_of}
use Rattle.meter_effects.proofs.Walks.{next_given}
use Rattle.object_model.specs.Tables.{place_of_script, scripts_under}
use Rattle.object_model.specs.declared.script_places.ScriptPlace.{ScriptPlace}
use Rattle.object_model.proofs.Positions.{first, first-none}
use Rattle.object_model.proofs.Scripted.{stands-there}
use Rattle.flow_edges.specs.Marking.{numbers_of, numbers_of_script, AreChanges}

-- A script that stands at a place

module _ (P : Plan) (r : ScriptRef) (p : ScriptPlace) (stands : place_of_script P.objects r ≡ Some p) where
  abbrev scripts : List Script
  scripts = scripts_under P.objects p.table

  effects-there : effects_of_script P r ≡ for_some (find (λ s. s.id == r.script) scripts) (λ s. actions_effects P s.actions)
  effects-there =
      ap (λ f. for_some f (λ o. script_in P (scripts_of o.part) r.script)) (first (λ o. same_name o.name r.table) P.objects p.table (stands-there P.objects r p stands).0).found
      ∙ at (slice_get P.objects p.table)
    where
      at : (f : Option Object) → for_some f (λ o. script_in P (scripts_of o.part) r.script) ≡ for_some (find (λ s. s.id == r.script) (for_some f (λ o. scripts_of o.part))) (λ s. actions_effects P s.actions)
      at None = refl
      at (Some o) = refl

  -- the null script changes nothing
  pub nothing-changed : p.place ≡ None → script_changes P r ≡ []
  nothing-changed none =
      ap changed
      (effects-there
      ∙ ap (λ f. for_some f (λ s. actions_effects P s.actions)) (first-none (λ s. s.id == r.script) scripts (sym (stands-there P.objects r p stands).1 ∙ none)))

  -- the numbers that are kept, by the tables
  abbrev rows : {Y Z : Type 0} → List (Vec (Vec ℕ Z) Y) → List (List (List ℕ))
  rows tables = map (λ lists. map (λ numbers. numbers.items) lists.items) tables

  -- its table has a row
  pub table-within : {Y Z : Type 0} (tables : List (Vec (Vec ℕ Z) Y)) → AreChanges P (rows tables) → p.table < length tables
  table-within tables are =
      let within = (first (λ o. same_name o.name r.table) P.objects p.table (stands-there P.objects r p stands).0).within in
      omega (
        arith,
        within,
        length-map tables (λ lists. map (λ numbers. numbers.items) lists.items),
        ap length are ∙ length-map P.objects (λ o. map (numbers_of_script P) (scripts_of o.part)),
      )

  row-there : {Y Z : Type 0} (tables : List (Vec (Vec ℕ Z) Y)) (t : Vec (Vec ℕ Z) Y) → AreChanges P (rows tables) → t ≡ get_or tables p.table t →
      map (λ numbers. numbers.items) t.items ≡ map (numbers_of_script P) scripts
  row-there tables t are is =
      at (slice_get P.objects p.table)
      (ap (λ u. Some (map (λ numbers. numbers.items) u.items)) is
      ∙ ap (option_map (λ lists. map (λ numbers. numbers.items) lists.items)) (sym (slice_get-get_or tables p.table t (table-within tables are)))
      ∙ sym (slice_get-map (λ lists. map (λ numbers. numbers.items) lists.items) tables p.table)
      ∙ ap (λ us. slice_get us p.table) are
      ∙ slice_get-map (λ o. map (numbers_of_script P) (scripts_of o.part)) P.objects p.table)
    where
      at : (f : Option Object) → Some (map (λ numbers. numbers.items) t.items) ≡ option_map (λ o. map (numbers_of_script P) (scripts_of o.part)) f →
          map (λ numbers. numbers.items) t.items ≡ map (numbers_of_script P) (for_some f (λ o. scripts_of o.part))
      at None h = cc
      at (Some o) h = cc

  -- and stands in it
  pub list-within : {Y Z : Type 0} (tables : List (Vec (Vec ℕ Z) Y)) (t : Vec (Vec ℕ Z) Y) (k : ℕ) → AreChanges P (rows tables) → t ≡ get_or tables p.table t → p.place ≡ Some k →
      k < length t.items
  list-within tables t k are is there =
      let within = (first (λ s. s.id == r.script) scripts k (sym (stands-there P.objects r p stands).1 ∙ there)).within in
      omega (arith, within, length-map t.items (λ numbers. numbers.items), ap length (row-there tables t are is) ∙ length-map scripts (numbers_of_script P))

  -- with the numbers of its cells
  pub kept-there : {Y Z : Type 0} (tables : List (Vec (Vec ℕ Z) Y)) (t : Vec (Vec ℕ Z) Y) (l : Vec ℕ Z) (k : ℕ) → AreChanges P (rows tables) → t ≡ get_or tables p.table t →
      p.place ≡ Some k → l ≡ get_or t.items k l → l.items ≡ numbers_of P (script_changes P r)
  kept-there tables t l k are is there here =
      at (slice_get scripts k)
      (ap (λ u. Some u.items) here
      ∙ ap (option_map (λ numbers. numbers.items)) (sym (slice_get-get_or t.items k l (list-within tables t k are is there)))
      ∙ sym (slice_get-map (λ numbers. numbers.items) t.items k)
      ∙ ap (λ ls. slice_get ls k) (row-there tables t are is)
      ∙ slice_get-map (numbers_of_script P) scripts k)
      ∙ ap (λ es. numbers_of P (changed es))
      (sym (effects-there ∙ ap (λ f. for_some f (λ s. actions_effects P s.actions)) (first (λ s. s.id == r.script) scripts k (sym (stands-there P.objects r p stands).1 ∙ there)).found))
    where
      at : (f : Option Script) → Some l.items ≡ option_map (numbers_of_script P) f → l.items ≡ numbers_of P (changed (for_some f (λ s. actions_effects P s.actions)))
      at None h = cc
      at (Some s) h = cc

-- Several scripts, one after another

-- each stands at the place with its index
pub place-in : (P : Plan) (scripts : List ScriptRef) (places : List ScriptPlace) (i : ℕ) (r : ScriptRef) (p : ScriptPlace) → map Some places ≡ map (place_of_script P.objects) scripts → i < length places →
    (i < length scripts) × (place_of_script P.objects (get_or scripts i r) ≡ Some (get_or places i p))
place-in P scripts [] i r p are h = absurd (omega arith)
place-in P [] (q ∷ places) i r p are h = cc
place-in P (s ∷ scripts) (q ∷ places) zero r p are h =
    let here : Some q ≡ place_of_script P.objects s = cc in
    (omega arith, sym here)
place-in P (s ∷ scripts) (q ∷ places) (suc i) r p are h =
    let rest : map Some places ≡ map (place_of_script P.objects) scripts = cc in
    let at = place-in P scripts places i r p rest (omega arith) in
    (omega (arith, at.0), at.1)

-- what one script more changes
pub changes-more : (P : Plan) (scripts : List ScriptRef) (i : ℕ) (r : ScriptRef) → i < length scripts →
    changed (scripts_effects P (take i scripts)) ++ script_changes P (get_or scripts i r) ≡ changed (scripts_effects P (take (i + 1) scripts))
changes-more P scripts i r within =
    let f = effects_of_script P in
    sym (flat_map-append changed_by (flat_map f (take i scripts)) (f (get_or scripts i r))) ∙ ap changed (next_given f scripts i r within)
