-- What is read as a value are its words, and the words of a value are read as that value.
use Rattle.std.proofs.Common.{◌≡◌, ℕ, ℤ, pos, negsuc, zero, suc, ◌-◌, ◌^◌, ◌<◌, ◌≤◌, Bool, true, false, List, [], ◌∷◌, ◌++◌, length, take, drop, Option, Some, None, Result, Ok, Err, refl, sym, ap, subst, ◌∙◌, append_assoc, arith, FitsSigned}
use Rattle.std.specs.Prelude.{codes}
use Rattle.std.specs.Char.{is_ascii_digit}
use Rattle.std.specs.Int.{w8, w16, w32, w64}
use Rattle.std.specs.Fmt.{decimal, signed_decimal}
use Rattle.std.proofs.lemmas.Bool.Decides.{nat_tests}
use Rattle.std.proofs.lemmas.Int.{ints}
use Rattle.std.proofs.lemmas.List.{length-append, take_at, drop_at}
use Rattle.cosem_data.specs.Tree.{Tree, Trees, null_data, array, structure, boolean, double_long, double_long_unsigned, octet_string, visible_string, integer, long, unsigned, long_unsigned, long64, long64_unsigned, enumerated, no_trees, more_trees, trees, parts, depth, depth_of}
use Rattle.cosem_data.specs.TreeCode.{trees-parts}
use Rattle.cosem_data.specs.Kinds.{kind_of}
use Rattle.cosem_data.specs.declared.kind.Kind.{Kind}
use Rattle.cosem_data.specs.declared.kind.Kind.TheVariants.{NullData, Array, Structure, Boolean, DoubleLong, DoubleLongUnsigned, OctetString, VisibleString, Integer, Long, Unsigned, LongUnsigned, Long64, Long64Unsigned, Enumerated}
use Rattle.value_words.specs.declared.fault.Asked.{Asked}
use Rattle.value_words.specs.declared.fault.Asked.TheVariants as asked
use Rattle.value_words.specs.declared.stop.Stop.{Stop}
use Rattle.value_words.specs.declared.stop.Stop.TheVariants as stop
use Rattle.value_words.specs.Words.{word_of, truth_words, content_words, list_words, more_words, value_words}
use Rattle.value_words.specs.Stopping.{◌>>=◌, Reader, behind, mark_at, read_map}
use Rattle.value_words.specs.WordReading.{kinds, kind_or, kind_among, found_kind, kind_at, is_digit, truth_step, truth_at, unsigned_at, signed_at, octets_at, quoted_at, part_end_step, part_end_at, parts_step, parts_at, list_step, content_at, value_with, list_at, value_within, placed, value_at}
use Rattle.value_words.specs.WordLaws.{HasRanges, HaveRanges, EndsHere, WrittenIsRead, ReadIsWritten}
use Rattle.value_words.proofs.Steps.{bind_ok, ok_is, some_is, mapped, read_again, done}
use Rattle.value_words.proofs.Behind.{behind-takes, mark_takes}
use Rattle.value_words.proofs.Runs.{NoneInFront}
use Rattle.value_words.proofs.Decimals.{unsigned_takes, unsigned_again, signed_takes, signed_again, IsWithin}
use Rattle.value_words.proofs.Octets.{octets_take, octets_again}
use Rattle.value_words.proofs.Letters.{quoted_takes, quoted_again}

-- ---- kinds

among_takes : (ks : List Kind) (text : List ℕ) (k : Kind) (rest : List ℕ) → kind_among ks text ≡ Some (k, rest) → text ≡ word_of k ++ rest
among_takes [] text k rest e = absurd cc
among_takes (x ∷ ks) text k rest e = at (behind (word_of x) text) refl e (among_takes ks text k rest)
  where
    at : (o : Option (List ℕ)) → behind (word_of x) text ≡ o → kind_or x o (kind_among ks text) ≡ Some (k, rest) → (kind_among ks text ≡ Some (k, rest) → text ≡ word_of k ++ rest) → text ≡ word_of k ++ rest
    at None is h others = others h
    at (Some left) is h others = behind-takes (word_of x) text left is ∙ ap (λ (y : Kind × List ℕ). word_of y.0 ++ y.1) (some_is {A = Kind × List ℕ} (x, left) (k, rest) h)

kind_takes : (text : List ℕ) (k : Kind) (rest : List ℕ) → kind_at text ≡ Ok (k, rest) → text ≡ word_of k ++ rest
unfolding kind_at
kind_takes text k rest e = at (kind_among kinds text) refl e
  where
    at : (o : Option (Kind × List ℕ)) → kind_among kinds text ≡ o → found_kind text o ≡ Ok (k, rest) → text ≡ word_of k ++ rest
    at None is h = absurd cc
    at (Some x) is h = among_takes kinds text k rest (is ∙ ap Some (ok_is {A = Kind × List ℕ} x (k, rest) h))

kind_again : (k : Kind) (text : List ℕ) → kind_at (word_of k ++ text) ≡ Ok (k, text)
unfolding kind_at
kind_again NullData text = refl
kind_again _ text = refl

-- ---- truth, and what stands behind a part

truth_takes : (text : List ℕ) (b : Bool) (rest : List ℕ) → truth_at text ≡ Ok (b, rest) → text ≡ truth_words b ++ rest
unfolding truth_at
truth_takes text b rest e = at (behind (codes "true") text) (behind (codes "false") text) refl refl e
  where
    at : (o u : Option (List ℕ)) → behind (codes "true") text ≡ o → behind (codes "false") text ≡ u → truth_step text o u ≡ Ok (b, rest) → text ≡ truth_words b ++ rest
    at (Some x) u one two h = behind-takes (codes "true") text x one ∙ ap (λ (y : Bool × List ℕ). truth_words y.0 ++ y.1) (ok_is {A = Bool × List ℕ} (true, x) (b, rest) h)
    at None (Some x) one two h = behind-takes (codes "false") text x two ∙ ap (λ (y : Bool × List ℕ). truth_words y.0 ++ y.1) (ok_is {A = Bool × List ℕ} (false, x) (b, rest) h)
    at None None one two h = absurd cc

truth_again : (b : Bool) (rest : List ℕ) → truth_at (truth_words b ++ rest) ≡ Ok (b, rest)
unfolding truth_at
truth_again true rest = refl
truth_again false rest = refl

abbrev end_words : Bool → List ℕ
end_words true = codes " }"
end_words false = codes ", "

end_takes : (text : List ℕ) (b : Bool) (rest : List ℕ) → part_end_at text ≡ Ok (b, rest) → text ≡ end_words b ++ rest
unfolding part_end_at
end_takes text b rest e = at (behind (codes " }") text) (behind (codes ", ") text) refl refl e
  where
    at : (o u : Option (List ℕ)) → behind (codes " }") text ≡ o → behind (codes ", ") text ≡ u → part_end_step text o u ≡ Ok (b, rest) → text ≡ end_words b ++ rest
    at (Some x) u one two h = behind-takes (codes " }") text x one ∙ ap (λ (y : Bool × List ℕ). end_words y.0 ++ y.1) (ok_is {A = Bool × List ℕ} (true, x) (b, rest) h)
    at None (Some x) one two h = behind-takes (codes ", ") text x two ∙ ap (λ (y : Bool × List ℕ). end_words y.0 ++ y.1) (ok_is {A = Bool × List ℕ} (false, x) (b, rest) h)
    at None None one two h = absurd cc

end_again : (b : Bool) (rest : List ℕ) → part_end_at (end_words b ++ rest) ≡ Ok (b, rest)
unfolding part_end_at
end_again true rest = refl
end_again false rest = refl

-- ---- what is read are the words of the value

-- a first part and the others
abbrev from_first : List Tree → List ℕ
from_first [] = []
from_first (t ∷ ts) = value_words t ++ more_words (trees ts)

abbrev ValueTakes : Reader Asked Tree → Type 0
ValueTakes value = (text : List ℕ) (t : Tree) (rest : List ℕ) → value text ≡ Ok (t, rest) → text ≡ value_words t ++ rest

abbrev ListTakes : Reader Asked (List Tree) → Type 0
ListTakes list = (text : List ℕ) (ts : List Tree) (rest : List ℕ) → list text ≡ Ok (ts, rest) → text ≡ list_words (trees ts) ++ rest

record Parts (text : List ℕ) (ts : List Tree) (rest : List ℕ) : Type 0 where
  some : 0 < length ts
  front : text ≡ from_first ts ++ rest

behind_comma : (t : Tree) (us : List Tree) (rest : List ℕ) → 0 < length us → value_words t ++ (codes ", " ++ (from_first us ++ rest)) ≡ from_first (t ∷ us) ++ rest
behind_comma t [] rest some = absurd (omega arith)
behind_comma t (u ∷ us) rest some = sym (append_assoc (value_words t) (codes ", " ++ from_first (u ∷ us)) rest)

parts_take : (value : Reader Asked Tree) → ValueTakes value → (n : ℕ) (text : List ℕ) (ts : List Tree) (rest : List ℕ) → parts_at value n text ≡ Ok (ts, rest) → Parts text ts rest
unfolding parts_at
parts_take value takes zero text ts rest e = absurd cc
parts_take value takes (suc n) text ts rest e =
    let a = bind_ok (value text) (λ first. part_end_at first.1 >>= λ end. read_map (λ us. first.0 ∷ us) (parts_step (parts_at value n) end.0 end.1)) (ts, rest) e in
    let b = bind_ok (part_end_at a.0.1) (λ end. read_map (λ us. a.0.0 ∷ us) (parts_step (parts_at value n) end.0 end.1)) (ts, rest) a.2 in
    let m = mapped (λ us. a.0.0 ∷ us) (parts_step (parts_at value n) b.0.0 b.0.1) ts rest b.2 in
    let here = takes text a.0.0 a.0.1 a.1 in
    let end = end_takes a.0.1 b.0.0 b.0.1 b.1 in
    on a.0.0 m.0 b.0.0 b.0.1 (here ∙ ap (λ (x : List ℕ). value_words a.0.0 ++ x) end) m.1 m.2 (λ h. parts_take value takes n b.0.1 m.0 rest h)
  where
    on : (t : Tree) (us : List Tree) (last : Bool) (after : List ℕ) → text ≡ value_words t ++ (end_words last ++ after) → parts_step (parts_at value n) last after ≡ Ok (us, rest) → t ∷ us ≡ ts
        → (parts_at value n after ≡ Ok (us, rest) → Parts after us rest) → Parts text ts rest
    on t us true after whole h is more =
        let ends = ok_is {A = List Tree × List ℕ} ([], after) (us, rest) h in
        let none : [] ≡ us = ap (λ (x : List Tree × List ℕ). x.0) ends in
        let same : after ≡ rest = ap (λ (x : List Tree × List ℕ). x.1) ends in
        subst (λ (ys : List Tree). Parts text ys rest) (ap (λ (x : List Tree). t ∷ x) none ∙ is)
        (record { some = omega arith; front = whole ∙ ap (λ (x : List ℕ). value_words t ++ (codes " }" ++ x)) same ∙ sym (append_assoc (value_words t) (codes " }") rest) })
    on t us false after whole h is more =
        let others = more h in
        subst (λ (ys : List Tree). Parts text ys rest) is
        (record { some = omega arith; front = whole ∙ ap (λ (x : List ℕ). value_words t ++ (codes ", " ++ x)) others.front ∙ behind_comma t us rest others.some })

behind_brace : (ts : List Tree) (rest : List ℕ) → 0 < length ts → codes "{ " ++ (from_first ts ++ rest) ≡ list_words (trees ts) ++ rest
behind_brace [] rest some = absurd (omega arith)
behind_brace (t ∷ ts) rest some = refl

record Content (k : Kind) (text : List ℕ) (t : Tree) (rest : List ℕ) : Type 0 where
  kind : kind_of t ≡ k
  front : text ≡ content_words t ++ rest

simple : {A : Type 0} (f : A → Tree) (k : Kind) (r : Result (A × List ℕ) (Stop Asked)) (text : List ℕ) (t : Tree) (rest : List ℕ) → ((x : A) → r ≡ Ok (x, rest) → text ≡ content_words (f x) ++ rest) → ((x : A) → kind_of (f x) ≡ k) → read_map f r ≡ Ok (t, rest) → Content k text t rest
simple f k r text t rest takes kind e =
    let m = mapped f r t rest e in
    subst (λ (u : Tree). Content k text u rest) m.2 (record { kind = kind m.0; front = takes m.0 m.1 })

content_takes : (list : Reader Asked (List Tree)) → ListTakes list → (k : Kind) (text : List ℕ) (t : Tree) (rest : List ℕ) → content_at list k text ≡ Ok (t, rest) → Content k text t rest
unfolding content_at
content_takes list takes NullData text t rest e =
    let is = ok_is {A = Tree × List ℕ} (null_data, text) (t, rest) e in
    subst (λ (x : Tree × List ℕ). Content NullData text x.0 x.1) is (record { kind = refl; front = refl })
content_takes list takes Array text t rest e = simple (λ ts. array (trees ts)) Array (list text) text t rest (λ x h. takes text x rest h) (λ x. refl) e
content_takes list takes Structure text t rest e = simple (λ ts. structure (trees ts)) Structure (list text) text t rest (λ x h. takes text x rest h) (λ x. refl) e
content_takes list takes Boolean text t rest e = simple boolean Boolean (truth_at text) text t rest (λ x h. truth_takes text x rest h) (λ x. refl) e
content_takes list takes DoubleLong text t rest e = simple double_long DoubleLong (signed_at asked.Number (2 ^ 31) text) text t rest (λ x h. signed_takes asked.Number (2 ^ 31) text x rest (omega arith) h) (λ x. refl) e
content_takes list takes DoubleLongUnsigned text t rest e = simple double_long_unsigned DoubleLongUnsigned (unsigned_at asked.Number (2 ^ 32 - 1) text) text t rest (λ x h. unsigned_takes asked.Number (2 ^ 32 - 1) text x rest (omega arith) h) (λ x. refl) e
content_takes list takes OctetString text t rest e = simple octet_string OctetString (octets_at text) text t rest (λ x h. octets_take text x rest h) (λ x. refl) e
content_takes list takes VisibleString text t rest e = simple visible_string VisibleString (quoted_at text) text t rest (λ x h. quoted_takes text x rest h) (λ x. refl) e
content_takes list takes Integer text t rest e = simple integer Integer (signed_at asked.Number (2 ^ 7) text) text t rest (λ x h. signed_takes asked.Number (2 ^ 7) text x rest (omega arith) h) (λ x. refl) e
content_takes list takes Long text t rest e = simple long Long (signed_at asked.Number (2 ^ 15) text) text t rest (λ x h. signed_takes asked.Number (2 ^ 15) text x rest (omega arith) h) (λ x. refl) e
content_takes list takes Unsigned text t rest e = simple unsigned Unsigned (unsigned_at asked.Number (2 ^ 8 - 1) text) text t rest (λ x h. unsigned_takes asked.Number (2 ^ 8 - 1) text x rest (omega arith) h) (λ x. refl) e
content_takes list takes LongUnsigned text t rest e = simple long_unsigned LongUnsigned (unsigned_at asked.Number (2 ^ 16 - 1) text) text t rest (λ x h. unsigned_takes asked.Number (2 ^ 16 - 1) text x rest (omega arith) h) (λ x. refl) e
content_takes list takes Long64 text t rest e = simple long64 Long64 (signed_at asked.Number (2 ^ 63) text) text t rest (λ x h. signed_takes asked.Number (2 ^ 63) text x rest (omega arith) h) (λ x. refl) e
content_takes list takes Long64Unsigned text t rest e = simple long64_unsigned Long64Unsigned (unsigned_at asked.Number (2 ^ 64 - 1) text) text t rest (λ x h. unsigned_takes asked.Number (2 ^ 64 - 1) text x rest (omega arith) h) (λ x. refl) e
content_takes list takes Enumerated text t rest e = simple enumerated Enumerated (unsigned_at asked.Number (2 ^ 8 - 1) text) text t rest (λ x h. unsigned_takes asked.Number (2 ^ 8 - 1) text x rest (omega arith) h) (λ x. refl) e

value_takes : (list : Reader Asked (List Tree)) → ListTakes list → ValueTakes (value_with list)
value_takes list takes text t rest e =
    let b = bind_ok (kind_at text) (λ kind. content_at list kind.0 kind.1) (t, rest) e in
    let c = content_takes list takes b.0.0 b.0.1 t rest b.2 in
    kind_takes text b.0.0 b.0.1 b.1
    ∙ ap (λ (k : Kind). word_of k ++ b.0.1) (sym c.kind)
    ∙ ap (λ (x : List ℕ). word_of (kind_of t) ++ x) c.front
    ∙ sym (append_assoc (word_of (kind_of t)) (content_words t) rest)

list_takes : (d : ℕ) → ListTakes (list_at d)
unfolding list_at
list_takes zero text ts rest e = absurd cc
list_takes (suc d) text ts rest e =
    let b = bind_ok (mark_at asked.OpenBrace (codes "{ ") text) (λ left. list_step (value_with (list_at d)) left (behind (codes "}") left)) (ts, rest) e in
    mark_takes asked.OpenBrace (codes "{ ") text b.0 b.1 ∙ on b.0 (behind (codes "}") b.0) refl b.2 (value_takes (list_at d) (list_takes d))
  where
    on : (left : List ℕ) (o : Option (List ℕ)) → behind (codes "}") left ≡ o → list_step (value_with (list_at d)) left o ≡ Ok (ts, rest) → ValueTakes (value_with (list_at d)) → codes "{ " ++ left ≡ list_words (trees ts) ++ rest
    on left (Some after) is h takes =
        ap (λ (x : List ℕ). codes "{ " ++ x) (behind-takes (codes "}") left after is)
        ∙ ap (λ (x : List Tree × List ℕ). list_words (trees x.0) ++ x.1) (ok_is {A = List Tree × List ℕ} ([], after) (ts, rest) h)
    on left None is h takes =
        let p = parts_take (value_with (list_at d)) takes (length left) left ts rest h in
        ap (λ (x : List ℕ). codes "{ " ++ x) p.front ∙ behind_brace ts rest p.some

-- what is read are the words of the value
pub within_takes : (d : ℕ) (text : List ℕ) (t : Tree) (rest : List ℕ) → value_within d text ≡ Ok (t, rest) → text ≡ value_words t ++ rest
unfolding value_within
within_takes d text t rest e = value_takes (list_at d) (list_takes d) text t rest e

placed_ok : {A : Type 0} (size : ℕ) (r : Result A (Stop Asked)) (x : A) → placed size r ≡ Ok x → r ≡ Ok x
placed_ok {A} size (Ok y) x e = let is : y ≡ x = cc in ap done is
placed_ok size (Err stop.Memory) x e = absurd cc
placed_ok size (Err (stop.At left what)) x e = absurd cc

pub read_is_written : ReadIsWritten
read_is_written text t rest e = within_takes 16 text t rest (placed_ok {A = Tree × List ℕ} (length text) (value_within 16 text) (t, rest) e)

-- ---- the words of a value are read

ends_digits : (rest : List ℕ) → EndsHere rest → NoneInFront is_ascii_digit rest
ends_digits [] h = tt
ends_digits (c ∷ rest) h = grind (arith, nat_tests)

ends_hex : (rest : List ℕ) → EndsHere rest → NoneInFront is_digit rest
ends_hex [] h = tt
ends_hex (c ∷ rest) h = h

within8 : (z : ℤ) → FitsSigned w8 z → IsWithin (2 ^ 7) z
within8 (pos n) h = omega (arith, ints)
within8 (negsuc n) h = omega (arith, ints)

within16 : (z : ℤ) → FitsSigned w16 z → IsWithin (2 ^ 15) z
within16 (pos n) h = omega (arith, ints)
within16 (negsuc n) h = omega (arith, ints)

within32 : (z : ℤ) → FitsSigned w32 z → IsWithin (2 ^ 31) z
within32 (pos n) h = omega (arith, ints)
within32 (negsuc n) h = omega (arith, ints)

within64 : (z : ℤ) → FitsSigned w64 z → IsWithin (2 ^ 63) z
within64 (pos n) h = omega (arith, ints)
within64 (negsuc n) h = omega (arith, ints)

-- a value has a word at least, and it is no closing brace
more_long : (ts : Trees) → length (parts ts) < length (more_words ts)
more_long no_trees = omega arith
more_long (more_trees t ts) = let more = more_long ts in omega (arith, more, length-append (value_words t) (more_words ts))

no_brace : (t : Tree) (more rest : List ℕ) → behind (codes "}") ((value_words t ++ more) ++ rest) ≡ None
no_brace null_data more rest = refl
no_brace _ more rest = refl

more_ends : (ts : Trees) (rest : List ℕ) → EndsHere (more_words ts ++ rest)
more_ends no_trees rest = refl
more_ends (more_trees t ts) rest = refl

-- the parts from a first one on
abbrev after_first : Trees → List ℕ
after_first no_trees = []
after_first (more_trees t ts) = value_words t ++ more_words ts

value_from : (t : Tree) (d : ℕ) (rest : List ℕ) → content_at (list_at d) (kind_of t) (content_words t ++ rest) ≡ Ok (t, rest) → value_with (list_at d) (value_words t ++ rest) ≡ Ok (t, rest)
value_from t d rest h =
    ap (value_with (list_at d)) (append_assoc (word_of (kind_of t)) (content_words t) rest)
    ∙ ap (λ (r : Result (Kind × List ℕ) (Stop Asked)). r >>= λ kind. content_at (list_at d) kind.0 kind.1) (kind_again (kind_of t) (content_words t ++ rest))
    ∙ h

-- one part and what ends it
part_step : (value : Reader Asked Tree) (n : ℕ) (text mid after : List ℕ) (t : Tree) (last : Bool) → value text ≡ Ok (t, mid) → part_end_at mid ≡ Ok (last, after)
    → parts_at value (suc n) text ≡ read_map (λ ts. t ∷ ts) (parts_step (parts_at value n) last after)
unfolding parts_at
part_step value n text mid after t last h end =
    ap (λ (r : Result (Tree × List ℕ) (Stop Asked)). r >>= λ first. part_end_at first.1 >>= λ end. read_map (λ ts. first.0 ∷ ts) (parts_step (parts_at value n) end.0 end.1)) h
    ∙ ap (λ (r : Result (Bool × List ℕ) (Stop Asked)). r >>= λ end. read_map (λ ts. t ∷ ts) (parts_step (parts_at value n) end.0 end.1)) end

-- one part, where the first of what it's followed by is known
first_part : (t : Tree) (d n : ℕ) (more after : List ℕ) (last : Bool) → content_at (list_at d) (kind_of t) (content_words t ++ (end_words last ++ after)) ≡ Ok (t, end_words last ++ after) → more ≡ end_words last ++ after
    → parts_at (value_with (list_at d)) (suc n) (value_words t ++ more) ≡ read_map (λ ts. t ∷ ts) (parts_step (parts_at (value_with (list_at d)) n) last after)
first_part t d n more after last h is =
    ap (λ (x : List ℕ). parts_at (value_with (list_at d)) (suc n) (value_words t ++ x)) is
    ∙ part_step (value_with (list_at d)) n (value_words t ++ (end_words last ++ after)) (end_words last ++ after) after t last (value_from t d (end_words last ++ after) h) (end_again last after)

-- the list behind its brace
list_from : (t : Tree) (ts : Trees) (d : ℕ) (rest : List ℕ) → parts_at (value_with (list_at d)) (length ((value_words t ++ more_words ts) ++ rest)) ((value_words t ++ more_words ts) ++ rest) ≡ Ok (t ∷ parts ts, rest)
    → list_at (suc d) (list_words (more_trees t ts) ++ rest) ≡ Ok (t ∷ parts ts, rest)
unfolding list_at
list_from t ts d rest h =
    let text = (value_words t ++ more_words ts) ++ rest in
    ap (list_step (value_with (list_at d)) text) (no_brace t (more_words ts) rest) ∙ h

list_again : (ts : Trees) (d : ℕ) (rest : List ℕ)
    → ((n : ℕ) → 0 < length (parts ts) → length (parts ts) ≤ n → parts_at (value_with (list_at d)) n (after_first ts ++ rest) ≡ Ok (parts ts, rest))
    → list_at (suc d) (list_words ts ++ rest) ≡ Ok (parts ts, rest)
unfolding list_at
list_again no_trees d rest again = refl
list_again (more_trees t ts) d rest again =
    let more = more_long ts in
    list_from t ts d rest
    (again (length ((value_words t ++ more_words ts) ++ rest)) (omega arith) (omega (arith, more, length-append (value_words t ++ more_words ts) rest, length-append (value_words t) (more_words ts))))

mutual
  unfolding content_at

  content_again : (t : Tree) (d : ℕ) (rest : List ℕ) → HasRanges t → depth t ≤ d → EndsHere rest → content_at (list_at d) (kind_of t) (content_words t ++ rest) ≡ Ok (t, rest)
  content_again null_data d rest h le ends = refl
  content_again (array ts) zero rest h le ends = absurd (omega arith)
  content_again (array ts) (suc d) rest h le ends =
      read_again {A = List Tree} (λ us. array (trees us)) (list_at (suc d) (list_words ts ++ rest)) (parts ts) rest (list_again ts d rest (λ n some enough. parts_again ts n d rest h (omega arith) some enough))
      ∙ ap (λ (us : Trees). done {A = Tree × List ℕ} (array us, rest)) (trees-parts ts)
  content_again (structure ts) zero rest h le ends = absurd (omega arith)
  content_again (structure ts) (suc d) rest h le ends =
      read_again {A = List Tree} (λ us. structure (trees us)) (list_at (suc d) (list_words ts ++ rest)) (parts ts) rest (list_again ts d rest (λ n some enough. parts_again ts n d rest h (omega arith) some enough))
      ∙ ap (λ (us : Trees). done {A = Tree × List ℕ} (structure us, rest)) (trees-parts ts)
  content_again (boolean b) d rest h le ends = read_again boolean (truth_at (truth_words b ++ rest)) b rest (truth_again b rest)
  content_again (double_long z) d rest h le ends = read_again double_long (signed_at asked.Number (2 ^ 31) (signed_decimal z ++ rest)) z rest (signed_again asked.Number (2 ^ 31) z rest (omega arith) (within32 z h) (ends_digits rest ends))
  content_again (double_long_unsigned n) d rest h le ends = read_again double_long_unsigned (unsigned_at asked.Number (2 ^ 32 - 1) (decimal n ++ rest)) n rest (unsigned_again asked.Number (2 ^ 32 - 1) n rest (omega arith) (omega arith) (ends_digits rest ends))
  content_again (octet_string s) d rest h le ends = read_again octet_string (octets_at (content_words (octet_string s) ++ rest)) s rest (octets_again s rest h (ends_hex rest ends))
  content_again (visible_string s) d rest h le ends = read_again visible_string (quoted_at (content_words (visible_string s) ++ rest)) s rest (quoted_again s rest h)
  content_again (integer z) d rest h le ends = read_again integer (signed_at asked.Number (2 ^ 7) (signed_decimal z ++ rest)) z rest (signed_again asked.Number (2 ^ 7) z rest (omega arith) (within8 z h) (ends_digits rest ends))
  content_again (long z) d rest h le ends = read_again long (signed_at asked.Number (2 ^ 15) (signed_decimal z ++ rest)) z rest (signed_again asked.Number (2 ^ 15) z rest (omega arith) (within16 z h) (ends_digits rest ends))
  content_again (unsigned n) d rest h le ends = read_again unsigned (unsigned_at asked.Number (2 ^ 8 - 1) (decimal n ++ rest)) n rest (unsigned_again asked.Number (2 ^ 8 - 1) n rest (omega arith) (omega arith) (ends_digits rest ends))
  content_again (long_unsigned n) d rest h le ends = read_again long_unsigned (unsigned_at asked.Number (2 ^ 16 - 1) (decimal n ++ rest)) n rest (unsigned_again asked.Number (2 ^ 16 - 1) n rest (omega arith) (omega arith) (ends_digits rest ends))
  content_again (long64 z) d rest h le ends = read_again long64 (signed_at asked.Number (2 ^ 63) (signed_decimal z ++ rest)) z rest (signed_again asked.Number (2 ^ 63) z rest (omega arith) (within64 z h) (ends_digits rest ends))
  content_again (long64_unsigned n) d rest h le ends = read_again long64_unsigned (unsigned_at asked.Number (2 ^ 64 - 1) (decimal n ++ rest)) n rest (unsigned_again asked.Number (2 ^ 64 - 1) n rest (omega arith) (omega arith) (ends_digits rest ends))
  content_again (enumerated n) d rest h le ends = read_again enumerated (unsigned_at asked.Number (2 ^ 8 - 1) (decimal n ++ rest)) n rest (unsigned_again asked.Number (2 ^ 8 - 1) n rest (omega arith) (omega arith) (ends_digits rest ends))

  parts_again : (ts : Trees) (n d : ℕ) (rest : List ℕ) → HaveRanges ts → depth_of ts ≤ d → 0 < length (parts ts) → length (parts ts) ≤ n → parts_at (value_with (list_at d)) n (after_first ts ++ rest) ≡ Ok (parts ts, rest)
  parts_again no_trees n d rest h le some enough = absurd (omega arith)
  parts_again (more_trees t ts) zero d rest h le some enough = absurd (omega arith)
  parts_again (more_trees t no_trees) (suc n) d rest h le some enough =
      ap (parts_at (value_with (list_at d)) (suc n)) (append_assoc (value_words t) (codes " }") rest)
      ∙ first_part t d n (codes " }" ++ rest) rest true (content_again t d (codes " }" ++ rest) h.0 (omega arith) refl) refl
  parts_again (more_trees t (more_trees u us)) (suc n) d rest h le some enough =
      let after = after_first (more_trees u us) ++ rest in
      ap (parts_at (value_with (list_at d)) (suc n)) (append_assoc (value_words t) (codes ", " ++ after_first (more_trees u us)) rest)
      ∙ first_part t d n (codes ", " ++ after) after false (content_again t d (codes ", " ++ after) h.0 (omega arith) refl) refl
      ∙ read_again {A = List Tree} (λ ts. t ∷ ts) (parts_at (value_with (list_at d)) n after) (parts (more_trees u us)) rest (parts_again (more_trees u us) n d rest h.1 (omega arith) (omega arith) (omega arith))

pub written_is_read : WrittenIsRead
unfolding value_within
written_is_read t rest h le ends = ap (placed (length (value_words t ++ rest))) (value_from t 16 rest (content_again t 16 rest h le ends))

-- ---- the front of a text

pub rest_short : (text : List ℕ) (t : Tree) (rest : List ℕ) → value_within 16 text ≡ Ok (t, rest) → length rest ≤ length text
rest_short text t rest e = omega (arith, ap length (within_takes 16 text t rest e), length-append (value_words t) rest)

taken : (text : List ℕ) (t : Tree) (rest : List ℕ) → value_within 16 text ≡ Ok (t, rest) → length (value_words t) ≡ length text - length rest
taken text t rest e = omega (arith, ap length (within_takes 16 text t rest e), length-append (value_words t) rest)

pub front_words : (text : List ℕ) (t : Tree) (rest : List ℕ) → value_within 16 text ≡ Ok (t, rest) → take (length text - length rest) text ≡ value_words t
front_words text t rest e =
    ap (take (length text - length rest)) (within_takes 16 text t rest e) ∙ take_at (value_words t) rest (length text - length rest) (taken text t rest e)

pub front_rest : (text : List ℕ) (t : Tree) (rest : List ℕ) → value_within 16 text ≡ Ok (t, rest) → drop (length text - length rest) text ≡ rest
front_rest text t rest e =
    ap (drop (length text - length rest)) (within_takes 16 text t rest e) ∙ drop_at (value_words t) rest (length text - length rest) (taken text t rest e)

pub front_read : (text : List ℕ) (t : Tree) (rest : List ℕ) → value_within 16 text ≡ Ok (t, rest) → value_at 16 text ≡ Ok (t, drop (length text - length rest) text)
front_read text t rest e = ap (placed (length text)) e ∙ ap (λ (x : List ℕ). Ok (t, x)) (sym (front_rest text t rest e))
