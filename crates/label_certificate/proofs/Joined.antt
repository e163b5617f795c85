-- Texts that lack a byte, and parts that were joined by it.
use Rattle.std.proofs.Common.{◌≡◌, ◌≢◌, ℕ, zero, suc, ◌+◌, ◌/◌, ◌%◌, ◌^◌, ◌<◌, ◌≤◌, Bool, true, false, eqb, List, [], ◌∷◌, ◌++◌, length, map, refl, sym, ap, subst, ◌∙◌, arith, inl, inr, ◌⊎◌}
use Rattle.std.specs.Prelude.{All}
use Rattle.std.specs.Fmt.{decimal}
use Rattle.std.specs.List.{join_with_byte, list_all}
use Rattle.std.specs.List.{AllByRecursion}
use Rattle.std.specs.Prelude.{codes, nat_le}
use Rattle.std.specs.Str.{bytes_eq}
use Rattle.std.proofs.lemmas.Bool.{cases_lt, ne_eqb, eq-eqb, and_parts, true≢false}
use Rattle.std.proofs.lemmas.Bool.Decides.{nat_tests}
use Rattle.std.proofs.lemmas.Slice.Eq.{bytes_eq-Decides}
use Rattle.cosem_data.specs.Names.{name_text}
use Rattle.meter_theory.specs.ClientNames.{is_name_byte, is_client_name}
use Rattle.std.proofs.lemmas.Fmt.{decimal_digit, decimal_step}
use Rattle.std.proofs.lemmas.List.Elements.{All-nil, All-cons}
use Rattle.std.proofs.lemmas.List.Splits.{slice_split_none, slice_split_at}
use Rattle.label_certificate.specs.LabelLine.{parts, are_client_names, names_text}

-- no byte of the text is this one
abbrev pub Lacks : ℕ → List ℕ → Type 0
Lacks c [] = Unit {0}
Lacks c (x ∷ text) = (x ≢ c) × Lacks c text

-- each of the texts lacks it
abbrev pub EachLacks : ℕ → List (List ℕ) → Type 0
EachLacks c [] = Unit {0}
EachLacks c (text ∷ texts) = Lacks c text × EachLacks c texts

pub lacks_append : (c : ℕ) (front text : List ℕ) → Lacks c front → Lacks c text → Lacks c (front ++ text)
lacks_append c [] text f t = t
lacks_append c (x ∷ front) text f t = (f.0, lacks_append c front text f.1 t)

all_others : (c : ℕ) (text : List ℕ) → Lacks c text → All (λ b. eqb b c ≡ false) text
all_others c [] h = All-nil (λ b. eqb b c ≡ false)
all_others c (x ∷ text) h = All-cons (λ b. eqb b c ≡ false) x text (ne_eqb x c h.0) (all_others c text h.1)

-- a part ends where the separator stands
pub parts_at : (c : ℕ) (part rest : List ℕ) → Lacks c part → parts c (part ++ c ∷ rest) ≡ part ∷ parts c rest
parts_at c part rest h = slice_split_at (λ b. eqb b c) part c rest (all_others c part h) (eq-eqb c c refl)

-- parts that were joined are taken apart
pub parts_joined : (c : ℕ) (first : List ℕ) (more : List (List ℕ)) → EachLacks c (first ∷ more) → parts c (join_with_byte c (first ∷ more)) ≡ first ∷ more
parts_joined c first [] h = slice_split_none (λ b. eqb b c) first (all_others c first h.0)
parts_joined c first (next ∷ more) h = parts_at c first (join_with_byte c (next ∷ more)) h.0 ∙ ap (λ ps. first ∷ ps) (parts_joined c next more h.1)

-- texts that lack a byte, joined by another, lack it
pub lacks_joined : (c separator : ℕ) (texts : List (List ℕ)) → separator ≢ c → EachLacks c texts → Lacks c (join_with_byte separator texts)
lacks_joined c separator [] other h = tt
lacks_joined c separator (text ∷ []) other h = h.0
lacks_joined c separator (text ∷ next ∷ more) other h = lacks_append c text (separator ∷ join_with_byte separator (next ∷ more)) h.0 (other, lacks_joined c separator (next ∷ more) other h.1)

-- a byte that is no digit
abbrev pub IsNoDigit : ℕ → Type 0
IsNoDigit c = (c < 48) ⊎ (57 < c)

no_digit : (c d : ℕ) → IsNoDigit c → d < 10 → 48 + d ≢ c
no_digit c d (inl low) small e = omega arith
no_digit c d (inr high) small e = omega arith

one_digit_lacks : (c n : ℕ) → IsNoDigit c → n < 10 → Lacks c (decimal n)
one_digit_lacks c n other small = subst (Lacks c) (sym (decimal_digit n small)) (no_digit c n other small, tt)

decimal_lacks : (fuel c n : ℕ) → IsNoDigit c → n ≤ fuel → n < 2 ^ 64 → Lacks c (decimal n)
decimal_lacks zero c n other enough fits = one_digit_lacks c n other (omega arith)
decimal_lacks (suc fuel) c n other enough fits =
    elim (cases_lt n 10) [
      | inl one ↦ one_digit_lacks c n other one
      | inr many ↦
          subst (Lacks c) (sym (decimal_step n many fits))
          (lacks_append c (decimal (n / 10)) ((48 + n % 10) ∷ []) (decimal_lacks fuel c (n / 10) other (omega arith) (omega arith)) (no_digit c (n % 10) other (omega arith), tt))
    ]

-- a number has digits alone
pub lacks_decimal : (c n : ℕ) → IsNoDigit c → n < 2 ^ 64 → Lacks c (decimal n)
lacks_decimal c n other fits = decimal_lacks n c n other (omega arith) fits

decimals_lack : (c : ℕ) (bytes : List ℕ) → IsNoDigit c → AllByRecursion (λ b. b < 256) bytes → EachLacks c (map decimal bytes)
decimals_lack c [] other h = tt
decimals_lack c (b ∷ bytes) other h = let small = h.0 in (lacks_decimal c b other (omega arith), decimals_lack c bytes other h.1)

-- a logical name has digits and dots alone
pub lacks_name : (c : ℕ) (bytes : List ℕ) → IsNoDigit c → 46 ≢ c → AllByRecursion (λ b. b < 256) bytes → Lacks c (name_text bytes)
lacks_name c bytes other dot h = lacks_joined c 46 (map decimal bytes) dot (decimals_lack c bytes other h)

-- ---- names of clients

-- a byte that stands in no name
abbrev pub IsNoNameByte : ℕ → Type 0
IsNoNameByte c = is_name_byte c ≡ false

name_byte_other : (c b : ℕ) → IsNoNameByte c → is_name_byte b ≡ true → b ≢ c
name_byte_other c b none is e = true≢false (sym is ∙ ap is_name_byte e ∙ none)

name_bytes_lack : (c : ℕ) (text : List ℕ) → IsNoNameByte c → list_all is_name_byte text ≡ true → Lacks c text
name_bytes_lack c [] none h = tt
name_bytes_lack c (b ∷ text) none h = let both = and_parts (is_name_byte b) (list_all is_name_byte text) h in (name_byte_other c b none both.0, name_bytes_lack c text none both.1)

-- what a client's name is made of
pub record HasNameForm (text : List ℕ) : Type 0 where
  pub some : 0 < length text
  pub bytes : list_all is_name_byte text ≡ true

pub name_form : (text : List ℕ) → is_client_name text ≡ true → HasNameForm text
name_form text h =
    let one = and_parts _ _ h in
    let two = and_parts _ _ one.1 in
    let three = and_parts _ _ two.1 in
    record { some = least (length text) one.0; bytes = three.0 }
  where
    least : (n : ℕ) → nat_le 1 n ≡ true → 0 < n
    least n e = grind (arith, nat_tests)

pub names_lack : (c : ℕ) (names : List (List ℕ)) → IsNoNameByte c → are_client_names names ≡ true → EachLacks c names
names_lack c [] none h = tt
names_lack c (name ∷ names) none h =
    let both = and_parts (is_client_name name) (are_client_names names) h in
    let form = name_form name both.0 in
    (name_bytes_lack c name none form.bytes, names_lack c names none both.1)

-- the text of names has their bytes, commas and `-` alone
pub lacks_names : (c : ℕ) (names : List (List ℕ)) → IsNoNameByte c → 44 ≢ c → 45 ≢ c → are_client_names names ≡ true → Lacks c (names_text names)
lacks_names c [] none comma dash h = (dash, tt)
lacks_names c (name ∷ names) none comma dash h = lacks_joined c 44 (name ∷ names) comma (names_lack c (name ∷ names) none h)

-- names that are there are not written as `-`
pub no_dash : (name : List ℕ) (names : List (List ℕ)) → are_client_names (name ∷ names) ≡ true → bytes_eq (join_with_byte 44 (name ∷ names)) (codes "-") ≡ false
no_dash name names h = at (join_with_byte 44 (name ∷ names)) (lacks_joined 45 44 (name ∷ names) (λ e. omega arith) (names_lack 45 (name ∷ names) refl h)) (bytes_eq (join_with_byte 44 (name ∷ names)) (codes "-")) refl
  where
    at : (text : List ℕ) → Lacks 45 text → (b : Bool) → bytes_eq text (codes "-") ≡ b → bytes_eq text (codes "-") ≡ false
    at text lacks false is = is
    at text lacks true is = absurd ((subst (Lacks 45) ((bytes_eq-Decides text (codes "-")).0 is) lacks).0 refl)
