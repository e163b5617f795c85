-- Names of objects: as texts, and as logical names.
use Rattle.std.proofs.Common.{◌≡◌, ℕ, ◌==◌, Bool, true, false, cond, List, [], ◌∷◌, ◌++◌, map, length, find, refl, sym, ap, subst, ◌∙◌, inl, inr, Option, Some, None, is_some, eq-eqb}
use Rattle.std.specs.Prelude.{option_map, codes, if◌then◌else◌}
use Rattle.std.specs.Str.{bytes_eq}
use Rattle.std.specs.List.{list_any}
use Rattle.std.proofs.lemmas.Slice.Eq.{bytes_eq-Decides}
use Rattle.std.proofs.lemmas.Bool.{or_parts, false_from_ne_true, false≢true}
use Rattle.cosem_data.specs.Digits as digits
use Rattle.cosem_data.specs.Digits.{name_at, dotted_at, field_at}
use Rattle.cosem_data.specs.Names.{name_text}
use Rattle.cosem_data.specs.Cells.{same_name}
use Rattle.cosem_data.specs.declared.name.LogicalName.{LogicalName}
use Rattle.cosem_data.proofs.Decimals.{name_takes}
use Rattle.cosem_data.proofs.Same.{same_name-from, same_name-true}
use Rattle.meter_theory.specs.ClientNames.{may_be_named}
use Rattle.meter_theory.specs.Lists.{IsIn, AreDistinct}
use Rattle.meter_theory.specs.Plan.{object_at, association_name}
use Rattle.meter_theory.proofs.Lists.{none_in, found, none_found, in_map, from_map, one_of_key}
use Rattle.config_text.specs.Fault.{fault_where}
use Rattle.config_text.specs.Parts.{Text, ConfigText, ClientText, ObjectText, RightText}
use Rattle.value_text.specs.Texts.{name_in}
use Rattle.config_rules.specs.Names.{object_named}
use Rattle.config_rules.specs.PlanOf.{name_of, no_name, or_else, object_of, plan_of}
use Rattle.config_rules.specs.Passes as passes
use Rattle.config_rules.proofs.Nothing.{both_none, holds, not_faulty, each_new_distinct, each_new_in, AsksNewKey, each_ok}
use Rattle.config_rules.proofs.Passed.{references_ok, EachReference, forms_parts}

-- the text is a logical name
abbrev pub IsName : Text → Type 0
IsName text = (bytes : List ℕ) × (name_at text ≡ Some bytes)

named : (text : Text) → is_some (name_in text) ≡ true → IsName text
named text h = at (name_at text) refl h
  where
    at : (r : Option (List ℕ)) → name_at text ≡ r → is_some {T = LogicalName} (option_map (λ bytes. record { 0 = bytes }) r) ≡ true → IsName text
    at None is e = cc
    at (Some bytes) is e = (bytes, is)

pub name_of_is : (text : Text) (bytes : List ℕ) → name_at text ≡ Some bytes → name_of text ≡ record { 0 = bytes }
name_of_is text bytes is = ap (λ r. or_else no_name (option_map (λ b. record { 0 = b }) r)) is

-- one name is written in one way
pub one_text : (a b : Text) → IsName a → IsName b → name_of a ≡ name_of b → a ≡ b
one_text a b x y e =
    name_takes a x.0 x.1
    ∙ (ap name_text (ap (λ n. n.0) (sym (name_of_is a x.0 x.1) ∙ (e ∙ name_of_is b y.0 y.1)))
    ∙ sym (name_takes b y.0 y.1))

then_some : {A B : Type 0} (r : Option A) (f : A → Option B) (y : B) → digits.◌>>=◌ r f ≡ Some y → (x : A) × (r ≡ Some x) × (f x ≡ Some y)
then_some (Some x) f y h = (x, refl, h)
then_some None f y h = cc

-- a logical name has six bytes
pub six_bytes : (text bytes : List ℕ) → name_at text ≡ Some bytes → (length bytes == 6) ≡ true
unfolding name_at
six_bytes text bytes h =
    let a = then_some (dotted_at text) _ bytes h in
    let b = then_some (dotted_at a.0.1) _ bytes a.2 in
    let c = then_some (dotted_at b.0.1) _ bytes b.2 in
    let d = then_some (dotted_at c.0.1) _ bytes c.2 in
    let e = then_some (dotted_at d.0.1) _ bytes d.2 in
    let f = then_some (field_at e.0.1) _ bytes e.2 in
    at (length f.0.1 == 0) (a.0.0 ∷ b.0.0 ∷ c.0.0 ∷ d.0.0 ∷ e.0.0 ∷ f.0.0 ∷ []) refl f.2
  where
    at : (b : Bool) (six : List ℕ) → (length six == 6) ≡ true → (if b then Some six else None) ≡ Some bytes → (length bytes == 6) ≡ true
    at true six is e = let same : six ≡ bytes = cc in subst (λ z. (length z == 6) ≡ true) same is
    at false six is e = cc

-- the names of objects are the same as texts and as names
same_text : (a b : Text) → IsName a → IsName b → same_name (name_of a) (name_of b) ≡ bytes_eq a b
same_text a b x y = at (bytes_eq a b) refl
  where
    at : (t : Bool) → bytes_eq a b ≡ t → same_name (name_of a) (name_of b) ≡ t
    at true p = subst (λ z. same_name (name_of a) (name_of z) ≡ true) ((bytes_eq-Decides a b).0 p) (same_name-from (name_of a) (name_of a) refl)
    at false p = false_from_ne_true (same_name (name_of a) (name_of b)) (λ q. other (one_text a b x y (same_name-true (name_of a) (name_of b) q)))
      where
        other : a ≡ b → ⊥
        other e = let q = (bytes_eq-Decides a b).1 e in absurd (false≢true (sym p ∙ q))

-- the object of a plan with this name is that of the configuration
find_named : (c : ConfigText) (os : List ObjectText) (text : Text) → ((o : ObjectText) → IsIn os o → IsName o.name) → IsName text →
    find (λ o. same_name o.name (name_of text)) (map (object_of c) os) ≡ option_map (object_of c) (find (λ o. bytes_eq o.name text) os)
find_named c [] text names is = refl
find_named c (o ∷ os) text names is =
    at (bytes_eq o.name text) (same_name (name_of o.name) (name_of text)) (same_text o.name text (names o (inl refl)) is)
    (find_named c os text (λ p i. names p (inr i)) is)
  where
    at : (s t : Bool) → t ≡ s → find (λ p. same_name p.name (name_of text)) (map (object_of c) os) ≡ option_map (object_of c) (find (λ p. bytes_eq p.name text) os) →
        cond t (Some (object_of c o)) (find (λ p. same_name p.name (name_of text)) (map (object_of c) os))
        ≡ option_map (object_of c) (cond s (Some o) (find (λ p. bytes_eq p.name text) os))
    at true true e rest = refl
    at true false e rest = cc
    at false true e rest = cc
    at false false e rest = rest

pub object_at_named : (c : ConfigText) → ((o : ObjectText) → IsIn c.objects o → IsName o.name) → (text : Text) → IsName text →
    object_at (plan_of c) (name_of text) ≡ option_map (object_of c) (object_named c text)
object_at_named c names text is = find_named c c.objects text names is

-- the names of a configuration that has no name of bad form
pub record AreNames (c : ConfigText) : Type 0 where
  pub objects : (o : ObjectText) → IsIn c.objects o → IsName o.name
  pub references : (o : ObjectText) → IsIn c.objects o → EachReference (λ t. IsName t.object) (λ r. IsName r.table) o.body
  pub rights : (r : RightText) → IsIn c.rights r → IsName r.object
  pub clients : (client : ClientText) → IsIn c.clients client → may_be_named c.version client.name ≡ true

is_name_at : (at text : Text) → passes.logical_form at text ≡ [] → IsName text
is_name_at at text h = named text (holds _ _ _ h)

pub names_ok : (c : ConfigText) → passes.forms c ≡ [] → AreNames c
unfolding passes.object_forms passes.right_forms
names_ok c h =
    let all = forms_parts c h in
    let parts : (o : ObjectText) → IsIn c.objects o → IsName o.name × EachReference (λ t. IsName t.object) (λ r. IsName r.table) o.body = λ o i.
    let at = each_ok _ _ _ _ all.1 o i in
    let both = both_none (passes.logical_form _ o.name) _ at.1 in
    (is_name_at _ o.name both.0, references_ok _ _ _ _ (λ place t. is_name_at _ t.object) (λ place r. is_name_at _ r.table) at.0 o.body both.1) in
    record {
      objects = λ o i. (parts o i).0;
      references = λ o i. (parts o i).1;
      rights = λ r i. is_name_at _ r.object (both_none (passes.client_form c.version _ r.client) _ (each_ok _ _ _ _ all.2 r i).1).1;
      clients = λ client i. holds _ _ _ (each_ok _ _ _ _ all.0 client i).1;
    }

-- each object has a name of its own, as a text
abbrev pub AreNew : ConfigText → Type 0
AreNew c = AreDistinct (map (λ o. o.name) c.objects)

-- no two objects have one name, and none has that of the current association
pub names_new : (c : ConfigText) → passes.new_objects c ≡ [] → AreNew c
unfolding passes.new_objects
names_new c h = each_new_distinct (λ o. o.name) passes.new_object other (codes "object") c.objects h
  where
    other : AsksNewKey (λ o. o.name) passes.new_object
    other earlier at o ok y i e =
        let none = (or_parts (bytes_eq (codes "0.0.40.0.0.255") o.name) (list_any (λ z. bytes_eq z.name o.name) earlier) (not_faulty _ (at ++ codes ".name") _ ok)).1 in
        absurd (false≢true (sym (none_in (λ z. bytes_eq z.name o.name) earlier y none i) ∙ (bytes_eq-Decides y.name o.name).1 e))

-- no two clients have one name
pub client_names_new : (c : ConfigText) → passes.new_clients c ≡ [] → AreDistinct (map (λ client. client.name) c.clients)
unfolding passes.new_clients passes.new_client
client_names_new c h = each_new_distinct (λ client. client.name) passes.new_client other (codes "client") c.clients h
  where
    other : AsksNewKey (λ client. client.name) passes.new_client
    other earlier at client ok y i e =
        let first = both_none (fault_where _ (at ++ codes ".name") (list_any (λ z. bytes_eq z.name client.name) earlier)) _ ok in
        let none = not_faulty _ (at ++ codes ".name") _ first.0 in
        absurd (false≢true (sym (none_in (λ z. bytes_eq z.name client.name) earlier y none i) ∙ (bytes_eq-Decides y.name client.name).1 e))

-- and no two have one service access point
pub saps_new : (c : ConfigText) → passes.new_clients c ≡ [] → AreDistinct (map (λ client. client.sap) c.clients)
unfolding passes.new_clients passes.new_client
saps_new c h = each_new_distinct (λ client. client.sap) passes.new_client other (codes "client") c.clients h
  where
    other : AsksNewKey (λ client. client.sap) passes.new_client
    other earlier at client ok y i e =
        let first = both_none (fault_where _ (at ++ codes ".name") (list_any (λ z. bytes_eq z.name client.name) earlier)) _ ok in
        let none = not_faulty _ (at ++ codes ".sap") _ first.1 in
        absurd (false≢true (sym (none_in (λ z. z.sap == client.sap) earlier y none i) ∙ eq-eqb y.sap client.sap e))

is_association : name_of (codes "0.0.40.0.0.255") ≡ association_name
unfolding name_at
is_association = refl

association_text : IsName (codes "0.0.40.0.0.255")
unfolding name_at
association_text = (0 ∷ 0 ∷ 40 ∷ 0 ∷ 0 ∷ 255 ∷ [], refl)

pub names_apart : (c : ConfigText) → AreNames c → passes.new_objects c ≡ [] → (o : ObjectText) → IsIn c.objects o → same_name (name_of o.name) association_name ≡ false
unfolding passes.new_objects
names_apart c names h o i =
    let r = each_new_in passes.new_object (codes "object") c.objects h o i in
    let apart = (or_parts (bytes_eq (codes "0.0.40.0.0.255") o.name) (list_any (λ z. bytes_eq z.name o.name) r.0) (not_faulty _ (r.1 ++ codes ".name") _ r.2)).0 in
    false_from_ne_true (same_name (name_of o.name) association_name) (λ same.
    let e : codes "0.0.40.0.0.255" ≡ o.name = one_text (codes "0.0.40.0.0.255") o.name association_text (names.objects o i)
    (is_association ∙ sym (same_name-true (name_of o.name) association_name same)) in
    absurd (false≢true (sym apart ∙ (bytes_eq-Decides (codes "0.0.40.0.0.255") o.name).1 e)))

-- the object with a name is found by it
pub finds : (c : ConfigText) → AreNew c → (o : ObjectText) → IsIn c.objects o → object_named c o.name ≡ Some o
finds c new o i = at (object_named c o.name) refl
  where
    at : (r : Option ObjectText) → object_named c o.name ≡ r → r ≡ Some o
    at None is = absurd (none_found (λ p. bytes_eq p.name o.name) c.objects o is i ((bytes_eq-Decides o.name o.name).1 refl))
    at (Some p) is =
        let there = found (λ q. bytes_eq q.name o.name) c.objects p is in
        ap Some (one_of_key (λ q. q.name) c.objects new p o there.0 i ((bytes_eq-Decides p.name o.name).0 there.1))

pub found_named : (c : ConfigText) (text : Text) (o : ObjectText) → object_named c text ≡ Some o → IsIn c.objects o × (o.name ≡ text)
found_named c text o is = let there = found (λ p. bytes_eq p.name text) c.objects o is in (there.0, (bytes_eq-Decides o.name text).0 there.1)

-- objects whose names differ as texts have names of their own
distinct_names : (c : ConfigText) (os : List ObjectText) → ((o : ObjectText) → IsIn os o → IsName o.name) → AreDistinct (map (λ o. o.name) os) →
    AreDistinct (map (λ o. o.name) (map (object_of c) os))
distinct_names c [] names new = tt
distinct_names c (o ∷ os) names new = (other, distinct_names c os (λ p i. names p (inr i)) new.1)
  where
    other : IsIn (map (λ p. p.name) (map (object_of c) os)) (name_of o.name) → ⊥
    other i =
        let named = from_map (λ p. p.name) (map (object_of c) os) (name_of o.name) i in
        let p = from_map (object_of c) os named.0 named.1 in
        let same : o.name ≡ p.0.name = one_text o.name p.0.name (names o (inl refl)) (names p.0 (inr p.1)) (named.2 ∙ ap (λ z. z.name) p.2) in
        new.0 (subst (IsIn (map (λ z. z.name) os)) (sym same) (in_map (λ z. z.name) os p.0 p.1))

-- each object of the plan has a name of its own
pub plan_names : (c : ConfigText) → AreNames c → AreNew c → AreDistinct (map (λ o. o.name) (plan_of c).objects)
plan_names c names new = distinct_names c c.objects names.objects new
