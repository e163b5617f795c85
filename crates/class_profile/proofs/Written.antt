-- What is written of rows, one after the other.
use Rattle.std.proofs.Common.{◌≡◌, ℕ, zero, suc, ◌+◌, ◌<◌, List, [], ◌∷◌, ◌++◌, map, length, get_or, take, refl, sym, ap, subst, ◌∙◌, arith, append_assoc, length-append}
use Rattle.std.proofs.lemmas.List.{map_more, append-nil, length-map}
use Rattle.cosem_data.specs.Tree.{Tree, trees, parts}
use Rattle.cosem_data.specs.TreeCode.{parts-trees}
use Rattle.cosem_data.specs.Kinds.{tag_of}
use Rattle.cosem_data.specs.declared.data.Data.{Data}
use Rattle.cosem_data.specs.declared.kind.Kind.TheVariants.{Array}
use Rattle.cosem_axdr.specs.Canonical.{canonical, all, shortest, HasLengths, HaveLengths}
use Rattle.cosem_axdr.specs.Laws.{HasRanges, HaveRanges}
use Rattle.meter_theory.specs.Value.{array_of}

-- a row of rows whose lengths can be written
pub lengths_at : (f : Data → Tree) (xs : List Data) (i : ℕ) (x : Data) → i < length xs → HaveLengths (trees (map f xs)) → x ≡ get_or xs i x → HasLengths (f x)
lengths_at f [] i x lt h e = absurd (omega arith)
lengths_at f (y ∷ ys) zero x lt h e = subst (λ (z : Data). HasLengths (f z)) (sym e) h.0
lengths_at f (y ∷ ys) (suc i) x lt h e = lengths_at f ys i x (omega arith) h.1 e

-- the front and the back of rows whose lengths can be written
pub lengths_split : (ts us : List Tree) → HaveLengths (trees (ts ++ us)) → HaveLengths (trees ts) × HaveLengths (trees us)
lengths_split [] us h = (tt, h)
lengths_split (t ∷ ts) us h = let rest = lengths_split ts us h.1 in ((h.0, rest.0), rest.1)

pub ranges_append : (ts us : List Tree) → HaveRanges (trees ts) → HaveRanges (trees us) → HaveRanges (trees (ts ++ us))
ranges_append [] us h r = r
ranges_append (t ∷ ts) us h r = (h.0, ranges_append ts us h.1 r)

pub all-append : (ts us : List Tree) → all (trees (ts ++ us)) ≡ all (trees ts) ++ all (trees us)
all-append [] us = refl
all-append (t ∷ ts) us = ap (λ (x : List ℕ). canonical t ++ x) (all-append ts us) ∙ sym (append_assoc (canonical t) (all (trees ts)) (all (trees us)))

-- one more row
one_more : (f : Data → Tree) (xs : List Data) (i : ℕ) (x : Data) → i < length xs → x ≡ get_or xs i x → map f (take (i + 1) xs) ≡ map f (take i xs) ++ f x ∷ []
one_more f xs i x lt e = map_more f xs i x lt ∙ ap (λ (y : Data). map f (take i xs) ++ f y ∷ []) (sym e)

pub all_more : (f : Data → Tree) (out : List ℕ) (xs : List Data) (i : ℕ) (x : Data) → i < length xs → x ≡ get_or xs i x
    → (out ++ all (trees (map f (take i xs)))) ++ canonical (f x) ≡ out ++ all (trees (map f (take (i + 1) xs)))
all_more f out xs i x lt e =
    let before = all (trees (map f (take i xs))) in
    append_assoc out before (canonical (f x))
    ∙ ap (λ (y : List ℕ). out ++ (before ++ y)) (sym (append-nil (canonical (f x))))
    ∙ ap (λ (y : List ℕ). out ++ y) (sym (all-append (map f (take i xs)) (f x ∷ [])) ∙ ap (λ (ts : List Tree). all (trees ts)) (sym (one_more f xs i x lt e)))

pub ranges_more : (f : Data → Tree) (xs : List Data) (i : ℕ) (x : Data) → i < length xs → x ≡ get_or xs i x → HaveRanges (trees (map f (take i xs))) → HasRanges (f x)
    → HaveRanges (trees (map f (take (i + 1) xs)))
ranges_more f xs i x lt e h r =
    subst (λ (ts : List Tree). HaveRanges (trees ts)) (sym (one_more f xs i x lt e)) (ranges_append (map f (take i xs)) (f x ∷ []) h (r, tt))

-- how many rows there are in two lists, one behind the other
pub count_of_rows : (f : Data → Tree) (xs ys : List Data) → length (parts (trees (map f xs ++ map f ys))) ≡ length xs + length ys
count_of_rows f xs ys =
    ap length (parts-trees (map f xs ++ map f ys))
    ∙ length-append (map f xs) (map f ys)
    ∙ ap (λ n. n + length (map f ys)) (length-map xs f)
    ∙ ap (λ n. length xs + n) (length-map ys f)

-- the front of an array, and the rows of two lists behind it, are the array's encoding
pub written : (f : Data → Tree) (out : List ℕ) (xs ys : List Data) →
    ((out ++ (tag_of Array ∷ shortest (length xs + length ys))) ++ all (trees (map f xs))) ++ all (trees (map f ys)) ≡ out ++ canonical (array_of (map f xs ++ map f ys))
written f out xs ys =
    let front = tag_of Array ∷ shortest (length xs + length ys) in
    let older = all (trees (map f xs)) in
    let newer = all (trees (map f ys)) in
    append_assoc (out ++ front) older newer
    ∙ append_assoc out front (older ++ newer)
    ∙ ap (λ (n : ℕ). out ++ ((tag_of Array ∷ shortest n) ++ (older ++ newer))) (sym (count_of_rows f xs ys))
    ∙ ap (λ (bytes : List ℕ). out ++ ((tag_of Array ∷ shortest (length (parts (trees (map f xs ++ map f ys))))) ++ bytes)) (sym (all-append (map f xs) (map f ys)))
