-- Keys for which `==` is true are equal in what is seen of them.
use Rattle.std.proofs.Common.{◌≡◌, Bool, true, List, [], ◌∷◌, map, refl, ap, ap₂, subst, rules}
use Rattle.std.specs.Bool.{Decides}
use Rattle.std.specs.Prelude.{Option, Some, None}
use Rattle.std.specs.Cmp.{booleans_Decides, unsigned_Decides}
use Rattle.std.specs.Cmp.Lexicographic.{pointwise}
use Rattle.std.specs.contracts.prelude.OptionPartialEq.TheImpl as option
use Rattle.std.proofs.lemmas.Bool.{and_parts}
use Rattle.std.proofs.lemmas.Bool.Decides.{Decides-and, Decides-like}
use Rattle.std.proofs.lemmas.Slice.Eq.{slice_eq-Decides}
use Rattle.cosem_data.specs.Equal.{same_cell-Decides, same_method-Decides}
use Rattle.meter_theory.specs.contracts.flow.ReachPartialEq.TheImpl as reach
use Rattle.meter_theory.specs.contracts.flow.ReachEq.TheImpl.Laws as reach-laws
use Rattle.meter_theory.specs.declared.flow.Reach.{Reach}
use Rattle.flow_map.specs.contracts.kind.Change.{the_row as change-row}
use Rattle.flow_map.specs.contracts.kind.ChangePartialEq.TheImpl as change
use Rattle.flow_map.specs.declared.kind.Change.{Change}
use Rattle.flow_map.specs.contracts.request.GrantedRequest.{the_row as request-row}
use Rattle.flow_map.specs.contracts.request.GrantedRequestPartialEq.TheImpl as request
use Rattle.flow_map.specs.contracts.request.GrantedRequestEq.TheImpl.Laws as request-laws
use Rattle.flow_map.specs.declared.request.GrantedRequest.{GrantedRequest}
use Rattle.flow_map.specs.declared.request.GrantedRequest.TheVariants as requests
use Rattle.flow_page.specs.Keys.{row_facts}
use Rattle.flow_page.specs.Objects.{held_shown, object_facts}
use Rattle.flow_page.specs.WayTables.{way_key}
use Rattle.flow_page.specs.contracts.objects.HeldPartialEq.TheImpl as held
use Rattle.flow_page.specs.contracts.view.keys.MarkKeyEq.TheImpl.Laws as mark-laws
use Rattle.flow_page.specs.contracts.view.keys.MarkKeyPartialEq.TheImpl as mark
use Rattle.flow_page.specs.contracts.view.keys.ObjectKeyPartialEq.TheImpl as object
use Rattle.flow_page.specs.contracts.view.keys.RowKeyPartialEq.TheImpl as row
use Rattle.flow_page.specs.contracts.view.keys.WordPartialEq.TheImpl as word
use Rattle.flow_page.specs.contracts.view.picks.PickPartialEq.TheImpl as pick
use Rattle.flow_page.specs.declared.objects.Held.{Held}
use Rattle.flow_page.specs.declared.view.keys.MarkKey.{MarkKey}
use Rattle.flow_page.specs.declared.view.keys.ObjectKey.{ObjectKey}
use Rattle.flow_page.specs.declared.view.keys.RowKey.{RowKey}
use Rattle.flow_page.specs.declared.view.keys.Word.{Word}
use Rattle.flow_page.specs.declared.view.picks.Pick.{Pick}

-- lists that are the same item by item, in what is seen of the items
slices : {X A : Type 0} (eq : X → X → Bool) (view : X → A) → ((a b : X) → Decides (eq a b) (view a ≡ view b)) → (xs ys : List X) → Decides (pointwise eq xs ys) (map view xs ≡ map view ys)
slices eq view each [] [] = (λ _. refl, λ _. refl)
slices eq view each [] (y ∷ ys) = (λ h. cc, λ h. cc)
slices eq view each (x ∷ xs) [] = (λ h. cc, λ h. cc)
slices eq view each (x ∷ xs) (y ∷ ys) = Decides-like _ (λ p. ap₂ (λ a others. a ∷ others) p.0 p.1) (λ h. (cc, cc)) (Decides-and _ _ (each x y) (slices eq view each xs ys))

reach-true : (a b : Reach) → (reach.ghosts).eq a b ≡ true → a ≡ b
reach-true a b h = search rules

request-true : (a b : GrantedRequest) → (request.ghosts).eq a b ≡ true → a ≡ b
request-true (requests.Get x) (requests.Get y) h = ap requests.Get ((same_cell-Decides x y).0 h)
request-true (requests.Set x) (requests.Set y) h = ap requests.Set ((same_cell-Decides x y).0 h)
request-true (requests.Act m) (requests.Act n) h = ap requests.Act ((same_method-Decides m n).0 h)
request-true (requests.Execute m s) (requests.Execute n t) h =
    let both = and_parts _ _ h in
    ap₂ requests.Execute ((same_method-Decides m n).0 both.0) ((unsigned_Decides s t).0 both.1)
request-true _ _ h = cc

word-true : (a b : Word) → (word.ghosts).eq a b ≡ true → a ≡ b
word-true a b h = search rules

abbrev same_change : Option Change → Option Change → Bool
same_change = (option.ghosts change-row change.ghosts change.dict).eq

change-true : (a b : Option Change) → same_change a b ≡ true → a ≡ b
change-true a b h = search rules

abbrev same_refused : Option GrantedRequest → Option GrantedRequest → Bool
same_refused = (option.ghosts request-row request.ghosts request.dict).eq

refused-true : (a b : Option GrantedRequest) → same_refused a b ≡ true → a ≡ b
refused-true None None h = refl
refused-true (Some a) (Some b) h = ap Some (request-true a b h)
refused-true _ _ h = cc

mark-true : (a b : MarkKey) → (mark.ghosts).eq a b ≡ true → a ≡ b
mark-true a b h =
    let p = and_parts _ _ h in
    let q = and_parts _ _ p.1 in
    let r = and_parts (same_change a.change b.change) (same_refused a.refused b.refused) q.1 in
    let word = word-true a.word b.word p.0 in
    let allowed = (booleans_Decides a.allowed b.allowed).0 q.0 in
    let change = change-true a.change b.change r.0 in
    let refused = refused-true a.refused b.refused r.1 in
    λ i. record { word = word i; allowed = allowed i; change = change i; refused = refused i }

mark-Decides : (a b : MarkKey) → Decides ((mark.ghosts).eq a b) (a ≡ b)
mark-Decides a b = (mark-true a b, λ e. subst (λ z. (mark.ghosts).eq a z ≡ true) e (mark-laws.laws-law.refl a))

pub row-Decides : (a b : RowKey) → Decides ((row.ghosts).eq a b) (row_facts a ≡ row_facts b)
row-Decides a b =
    Decides-like _ (λ p i. record { class_id = p.0 i; index = p.1.0 i; marks = p.1.1 i }) (λ e. (ap (λ f. f.class_id) e, (ap (λ f. f.index) e, ap (λ f. f.marks) e)))
    (Decides-and _ _ (unsigned_Decides a.class_id b.class_id) (Decides-and _ _ (unsigned_Decides a.index b.index) (slice_eq-Decides mark-Decides a.marks.items b.marks.items _ refl)))

held-Decides : (a b : Held) → Decides ((held.ghosts).eq a b) (held_shown a ≡ held_shown b)
held-Decides a b =
    Decides-like _ (λ p i. record { sees = p.0 i; gets = p.1.0 i; sets = p.1.1.0 i; acts = p.1.1.1 i })
    (λ e. (ap (λ f. f.sees) e, (ap (λ f. f.gets) e, (ap (λ f. f.sets) e, ap (λ f. f.acts) e))))
    (Decides-and _ _ (booleans_Decides a.sees b.sees) (Decides-and _ _ (slice_eq-Decides unsigned_Decides a.gets.items b.gets.items _ refl)
    (Decides-and _ _ (slice_eq-Decides unsigned_Decides a.sets.items b.sets.items _ refl) (slice_eq-Decides unsigned_Decides a.acts.items b.acts.items _ refl))))

pub object-Decides : (a b : ObjectKey) → Decides ((object.ghosts).eq a b) (object_facts a ≡ object_facts b)
object-Decides a b =
    Decides-like _ (λ p i. record { class_id = p.0 i; is_fed = p.1.0 i; held = p.1.1 i }) (λ e. (ap (λ f. f.class_id) e, (ap (λ f. f.is_fed) e, ap (λ f. f.held) e)))
    (Decides-and _ _ (unsigned_Decides a.class_id b.class_id) (Decides-and _ _ (booleans_Decides a.is_fed b.is_fed) (slices (held.ghosts).eq held_shown held-Decides a.held.items b.held.items)))

pub pick-Decides : (a b : Pick) → Decides ((pick.ghosts).eq a b) (way_key a ≡ way_key b)
pick-Decides a b =
    Decides-like _ (λ p i. record { reach = p.0 i; client = p.1.0 i; request = p.1.1 i }) (λ e. (ap (λ f. f.reach) e, (ap (λ f. f.client) e, ap (λ f. f.request) e)))
    (Decides-and _ _ (reach-true a.reach b.reach, λ e. subst (λ z. (reach.ghosts).eq a.reach z ≡ true) e (reach-laws.laws-law.refl a.reach))
    (Decides-and _ _ (unsigned_Decides a.client b.client) (request-true a.request b.request, λ e. subst (λ z. (request.ghosts).eq a.request z ≡ true) e (request-laws.laws-law.refl a.request))))
