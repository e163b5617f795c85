-- What is read, beside what it finds.
use Rattle.std.proofs.Common.{◌≡◌, ℕ, List, [], ◌∷◌, ◌++◌, map, Option, Some, None, Result, Ok, Err, refl, sym, ap, subst}
use Rattle.std.specs.Prelude.{IfOk, option_and_then}
use Rattle.std.specs.Result.{IsErr, IsErrAnd, result_ok}
use Rattle.std.proofs.lemmas.List.{append_assoc, append-nil, map-append}
use Rattle.toml.specs.Data.{Data, Members, as_integer, get_member}
use Rattle.config_text.specs.Fault.{Fault, Faults, OfKeys, OfValues, fault_in, faults_in, joined, taken_or, there_or, ◌<*>◌, ◌>>=◌}
use Rattle.config_text.specs.Document.{faults_of_document, parts_of}
use Rattle.config_text.specs.Lists.{in_front}
use Rattle.config_text.specs.Parts.{ConfigText, Text}
use Rattle.config_text.specs.Reading.{IsSlip, Reads, Slips, slips_in, slips_listed, slips_of_both}
use Rattle.config_text.specs.Refusals.{Finds, Refuses}
use Rattle.config_text.specs.Values.{natural_at, number_in}
use Rattle.config_text.specs.declared.fault.ConfigFault.{ConfigFault}
use Rattle.config_text.specs.declared.fault.ConfigFault.TheVariants as texts
use Rattle.config_text.specs.declared.fault.TableFault.{TableFault}
use Rattle.config_text.specs.declared.takes.KeyTakes.TheVariants.{Number as Wanted}
use Rattle.config_text.specs.declared.takes.Number.{Number}

-- readings beside one another have the faults of both
pub slips_in_both : {A B : Type 0} (make : Result (A → B) Faults) (r : Result A Faults) → slips_in (make <*> r) ≡ slips_of_both (slips_in make) (slips_in r)
slips_in_both (Ok make) (Ok x) = refl
slips_in_both (Ok make) (Err faults) = refl
slips_in_both (Err faults) (Ok x) = refl
slips_in_both (Err faults) (Err more) = refl

-- a refusal that is handed on
pub refused_on : {X Y : Type 0} (view : X → Y) (result : Result X TableFault) (refusal : TableFault) (said : Result Y Faults) →
    IsErr result × IsErrAnd result (λ e. e ≡ refusal) → IsSlip refusal (slips_in said) → Reads view result said
refused_on view (Ok x) refusal said handed slips = let h = handed.0 in cc
refused_on view (Err e) refusal said handed slips = (tt, subst (λ r. IsSlip r (slips_in said)) (sym handed.1) slips)

-- what was read has no faults
pub was_read : {Y : Type 0} (said : Result Y Faults) (y : Y) → said ≡ Ok y → (said ≡ Ok y) × (slips_in said ≡ None)
was_read said y is = (is, ap slips_in is)

-- three readings, in whatever way two of them are put together first
joined_assoc : (f g h : Faults) → joined (joined f g) h ≡ joined f (joined g h)
joined_assoc (OfKeys x xs) (OfKeys y ys) (OfKeys z zs) = ap (OfKeys x) (append_assoc xs (y ∷ ys) (z ∷ zs))
joined_assoc (OfKeys x xs) (OfKeys y ys) (OfValues z zs) = refl
joined_assoc (OfKeys x xs) (OfValues y ys) (OfKeys z zs) = refl
joined_assoc (OfKeys x xs) (OfValues y ys) (OfValues z zs) = refl
joined_assoc (OfValues x xs) (OfKeys y ys) (OfKeys z zs) = refl
joined_assoc (OfValues x xs) (OfKeys y ys) (OfValues z zs) = refl
joined_assoc (OfValues x xs) (OfValues y ys) (OfKeys z zs) = refl
joined_assoc (OfValues x xs) (OfValues y ys) (OfValues z zs) = ap (OfValues x) (append_assoc xs (y ∷ ys) (z ∷ zs))

-- what stands before, and what stands behind it; and one more behind all
abbrev pub behind : {A : Type 0} → List A → List A → List A
behind xs ys = xs ++ ys

abbrev pub one_behind : {A : Type 0} → List A → A → List A
one_behind xs x = xs ++ x ∷ []

-- nothing stands before
pub behind_nothing : {A : Type 0} (r : Result (List A) Faults) → Ok behind <*> Ok [] <*> r ≡ r
behind_nothing (Ok xs) = refl
behind_nothing (Err faults) = refl

-- nothing stands behind
pub nothing_behind : {A : Type 0} (r : Result (List A) Faults) → Ok behind <*> r <*> Ok [] ≡ r
nothing_behind (Ok xs) = ap Ok (append-nil xs)
nothing_behind (Err faults) = refl

-- one more element is read before those that are left, or behind those that were read
pub one_more : {A : Type 0} (so_far : Result (List A) Faults) (next : Result A Faults) (rest : Result (List A) Faults) →
    Ok behind <*> (Ok one_behind <*> so_far <*> next) <*> rest ≡ Ok behind <*> so_far <*> (Ok in_front <*> next <*> rest)
one_more (Ok xs) (Ok x) (Ok ys) = ap Ok (append_assoc xs (x ∷ []) ys)
one_more (Ok xs) (Ok x) (Err h) = refl
one_more (Ok xs) (Err g) (Ok ys) = refl
one_more (Ok xs) (Err g) (Err h) = refl
one_more (Err f) (Ok x) (Ok ys) = refl
one_more (Err f) (Ok x) (Err h) = refl
one_more (Err f) (Err g) (Ok ys) = refl
one_more (Err f) (Err g) (Err h) = ap Err (joined_assoc f g h)

-- one more element was read behind those before
pub next_read : {V A B : Type 0} (items : V → List A) (seen : A → B) (before : Result V TableFault) (next : Result A TableFault) (after : Result V TableFault)
    (so_far : Result (List B) Faults) (said : Result B Faults) →
    Reads (λ v. map seen (items v)) before so_far → Reads seen next said → Slips after (slips_of_both (slips_in so_far) (slips_in said)) →
    IfOk after (λ now. (v : V) × (x : A) × (before ≡ Ok v) × (next ≡ Ok x) × (items now ≡ items v ++ x ∷ [])) →
    Reads (λ v. map seen (items v)) after (Ok one_behind <*> so_far <*> said)
next_read items seen before next (Err refusal) so_far said one two slips reads =
    (tt, rw (slips_in_both (Ok one_behind <*> so_far) said, slips_in_both (Ok one_behind) so_far) slips)
next_read items seen before next (Ok now) so_far said one two slips reads =
    let first : so_far ≡ Ok (map seen (items reads.0)) = (subst (λ r. Reads (λ v. map seen (items v)) r so_far) reads.2 one).0 in
    let second : said ≡ Ok (seen reads.1) = (subst (λ r. Reads seen r said) reads.3 two).0 in
    rw (first, second, reads.4, map-append) (refl, refl)

-- the number that was read is the one that stands there, if it is one that the key takes
pub number_read : (number : Number) (at key : Text) (t : Members) →
    result_ok (natural_at number at key t) ≡ number_in number (option_and_then as_integer (get_member key t))
unfolding natural_at
number_read number at key t = there (get_member key t)
  where
    taken : (place : Text) (n : Option ℕ) → result_ok (taken_or (Wanted number) place n) ≡ n
    taken place (Some n) = refl
    taken place None = refl

    there : (d : Option Data) →
        result_ok (there_or (at ++ key) d >>= λ d. taken_or (Wanted number) (at ++ key) (number_in number (as_integer d))) ≡ number_in number (option_and_then as_integer d)
    there (Some d) = taken (at ++ key) (number_in number (as_integer d))
    there None = refl

-- readings beside one another that were made, and what is made of them
pub beside_ok : {A B : Type 0} (make : Result (A → B) Faults) (r : Result A Faults) (y : B) → make <*> r ≡ Ok y →
    (f : A → B) × (x : A) × (make ≡ Ok f) × (r ≡ Ok x) × (f x ≡ y)
beside_ok (Ok f) (Ok x) y h = (f, x, refl, refl, cc)
beside_ok (Ok f) (Err faults) y h = cc
beside_ok (Err faults) (Ok x) y h = cc
beside_ok (Err faults) (Err more) y h = cc

-- the fault of a text that is no TOML is the only one that it has, and is handed on
refused_alone : (refusal : ConfigFault) (d : Result Members Fault) → Refuses refusal (fault_in d) → Refuses refusal (faults_of_document d)
refused_alone texts.Memory d refuses = tt
refused_alone (texts.Found first others) (Ok t) refuses = cc
refused_alone (texts.Found first others) (Err fault) refuses = refuses

pub refused_document : {X : Type 0} (result : Result X ConfigFault) (refusal : ConfigFault) (d : Result Members Fault) →
    IsErr result × IsErrAnd result (λ e. e ≡ refusal) → Refuses refusal (fault_in d) → Finds result (faults_of_document d)
refused_document (Ok x) refusal d handed refuses = let h = handed.0 in cc
refused_document (Err e) refusal d handed refuses = refused_alone e d (subst (λ r. Refuses r (fault_in d)) (sym handed.1) refuses)

-- those of a table that was refused
pub refused_parts : (refusal : ConfigFault) (slips : TableFault) (d : Result Members Fault) (t : Members) → d ≡ Ok t → IsSlip slips (slips_in (parts_of t)) →
    ((s : Option Faults) → IsSlip slips s → Refuses refusal (slips_listed s)) → Refuses refusal (faults_of_document d)
refused_parts refusal slips d t is found told = rw is (subst (Refuses refusal) (all (parts_of t)) (told (slips_in (parts_of t)) found))
  where
    all : (r : Result ConfigText Faults) → slips_listed (slips_in r) ≡ faults_in r
    all (Ok x) = refl
    all (Err faults) = refl
