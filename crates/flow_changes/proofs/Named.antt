-- Names of clients between commas, and clients one by one.
use Rattle.std.specs.Prelude.{◌≡◌, ℕ, suc, ◌+◌, ◌-◌, ◌≤◌, Bool, true, false, ◌||◌, cond, List, [], ◌∷◌, ◌++◌, Some, None, drop, filter, flat_map, length, map, slice_get, take}
use Rattle.std.specs.List.{enumerate_from, join_with_byte, list_any}
use Rattle.std.proofs.Common.{refl, sym, ap, ap₂, ◌∙◌, append_assoc, arith, inl, inr}
use Rattle.std.proofs.Math.Seq.{drop-cons}
use Rattle.std.proofs.lemmas.List.{append-nil, drop_all, take_rest}
use Rattle.std.proofs.lemmas.Option.{slice_get_within, get_or_from_slice_get, slice_get_cases}
use Rattle.meter_theory.specs.Plan.{Client, Plan}
use Rattle.flow_changes.specs.Changes.{names_or_nobody}
use Rattle.flow_changes.specs.Facts.{Numbered}

-- the clients from a place on, with their numbers
abbrev pub numbered_from : Plan → ℕ → List Numbered
numbered_from P place = enumerate_from place (drop place P.clients)

pub numbered-more : (P : Plan) (place : ℕ) (client : Client) → slice_get P.clients place ≡ Some client → numbered_from P place ≡ (place, client) ∷ numbered_from P (place + 1)
numbered-more P place client e =
    let next : suc place ≡ place + 1 = omega arith in
    ap (enumerate_from place)
    (drop-cons P.clients place client (slice_get_within P.clients place client e)
    ∙ ap (λ x. x ∷ drop (suc place) P.clients) (get_or_from_slice_get P.clients place client client e)
    ∙ ap (λ k. client ∷ drop k P.clients) next)

pub numbered-end : (P : Plan) (place : ℕ) → slice_get P.clients place ≡ None → numbered_from P place ≡ []
numbered-end P place e =
    elim (slice_get_cases P.clients place).1 [
      | inl s ↦ let there = s.2 in absurd cc
      | inr past ↦ ap (enumerate_from place) (drop_all place P.clients past.0)
    ]

-- lists of clients, one by one

-- one client's list is put behind others
pub client-more : {A : Type 0} (P : Plan) (f : Numbered → List A) (place : ℕ) (client : Client) (before new all : List A) → slice_get P.clients place ≡ Some client →
    new ≡ before ++ f (place, client) → before ++ flat_map f (numbered_from P place) ≡ all → new ++ flat_map f (numbered_from P (place + 1)) ≡ all
client-more P f place client before new all there put so_far =
    ap (λ t. t ++ flat_map f (numbered_from P (place + 1))) put
    ∙ append_assoc before (f (place, client)) (flat_map f (numbered_from P (place + 1)))
    ∙ ap (λ ns. before ++ flat_map f ns) (sym (numbered-more P place client there))
    ∙ so_far

-- and none is left
pub client-end : {A : Type 0} (P : Plan) (f : Numbered → List A) (place : ℕ) (before all : List A) → slice_get P.clients place ≡ None → before ++ flat_map f (numbered_from P place) ≡ all → before ≡ all
client-end P f place before all none so_far = sym (append-nil before) ∙ ap (λ ns. before ++ flat_map f ns) (sym (numbered-end P place none)) ∙ so_far

-- The first line

-- names behind commas
joined-is : (name : List ℕ) (names : List (List ℕ)) → join_with_byte 44 (name ∷ names) ≡ name ++ flat_map (λ n. 44 ∷ n) names
joined-is name [] = sym (append-nil name)
joined-is name (next ∷ names) = ap (λ t. name ++ 44 ∷ t) (joined-is next names)

-- they stand there without the first comma
pub names-listed : (names : List (List ℕ)) (comma : ℕ) (listed : List ℕ) → flat_map (λ n. 44 ∷ n) names ≡ comma ∷ listed → listed ≡ names_or_nobody names
names-listed [] comma listed e = cc
names-listed (name ∷ names) comma listed e =
    let rest : name ++ flat_map (λ n. 44 ∷ n) names ≡ listed = cc in
    sym rest ∙ sym (joined-is name names)

-- the names of those that pass, behind commas, are there where some pass
pub names-of : (p : Numbered → Bool) (ns : List Numbered) → flat_map (λ n. 44 ∷ n.1.name) (filter p ns) ≡ flat_map (λ name. 44 ∷ name) (map (λ n. n.1.name) (filter p ns))
names-of p ns = all (filter p ns)
  where
    all : (ms : List Numbered) → flat_map (λ n. 44 ∷ n.1.name) ms ≡ flat_map (λ name. 44 ∷ name) (map (λ n. n.1.name) ms)
    all [] = refl
    all (m ∷ ms) = ap (λ t. 44 ∷ (m.1.name ++ t)) (all ms)

-- a text has a byte
abbrev pub is-more : List ℕ → Bool
is-more [] = false
is-more (b ∷ bs) = true

pub some-named : (p : Numbered → Bool) (ns : List Numbered) → list_any p ns ≡ is-more (flat_map (λ n. 44 ∷ n.1.name) (filter p ns))
some-named p [] = refl
some-named p (n ∷ ns) = at (p n) (some-named p ns)
  where
    at : (b : Bool) → list_any p ns ≡ is-more (flat_map (λ n. 44 ∷ n.1.name) (filter p ns)) → (b || list_any p ns) ≡ is-more (flat_map (λ n. 44 ∷ n.1.name) (cond b (n ∷ filter p ns) (filter p ns)))
    at true rest = refl
    at false rest = rest

-- the name of a client that passes, behind a comma
abbrev pub name_if : (Numbered → Bool) → Numbered → List ℕ
name_if p n = cond (p n) (44 ∷ n.1.name) []

pub names-if : (p : Numbered → Bool) (ns : List Numbered) → flat_map (name_if p) ns ≡ flat_map (λ n. 44 ∷ n.1.name) (filter p ns)
names-if p [] = refl
names-if p (n ∷ ns) = at (p n) (names-if p ns)
  where
    at : (b : Bool) → flat_map (name_if p) ns ≡ flat_map (λ n. 44 ∷ n.1.name) (filter p ns) → cond b (44 ∷ n.1.name) [] ++ flat_map (name_if p) ns ≡ flat_map (λ n. 44 ∷ n.1.name) (cond b (n ∷ filter p ns) (filter p ns))
    at true rest = ap (λ t. 44 ∷ (n.1.name ++ t)) rest
    at false rest = rest

-- a name is put
pub name-put : (p : Numbered → Bool) (n : Numbered) (before comma after name : List ℕ) → comma ≡ before ++ 44 ∷ [] → after ≡ comma ++ name → name ≡ n.1.name → p n ≡ true → after ≡ before ++ name_if p n
name-put p n before comma after name one two is passes =
    two ∙ ap₂ (λ a b. a ++ b) one is ∙ append_assoc before (44 ∷ []) n.1.name ∙ ap (λ b. before ++ cond b (44 ∷ n.1.name) []) (sym passes)

-- and none of a client that fails
pub name-kept : (p : Numbered → Bool) (n : Numbered) (before : List ℕ) → p n ≡ false → before ≡ before ++ name_if p n
name-kept p n before fails = sym (append-nil before) ∙ ap (λ b. before ++ cond b (44 ∷ n.1.name) []) (sym fails)

-- what stands behind the first byte of such names
pub rest-listed : (names : List ℕ) (list : List (List ℕ)) → 1 ≤ length names → names ≡ flat_map (λ n. 44 ∷ n) list → take (length names - 1) (drop 1 names) ≡ names_or_nobody list
rest-listed [] list some e = absurd (omega arith)
rest-listed (comma ∷ listed) list some e = take_rest (comma ∷ listed) 1 ∙ names-listed list comma listed (sym e)
