-- Reading letters and parts one after the other, as a loop does.
use Rattle.std.proofs.Common.{◌≡◌, ℕ, suc, ◌-◌, ◌+◌, ◌≤◌, ◌<◌, Bool, true, false, List, [], ◌∷◌, ◌++◌, Option, Some, None, Result, Ok, Err, refl, sym, ap, ◌∙◌, append_assoc, arith}
use Rattle.std.proofs.lemmas.List.{append-nil}
use Rattle.cosem_data.specs.Tree.{Tree}
use Rattle.value_words.specs.declared.fault.Asked.{Asked}
use Rattle.value_words.specs.declared.fault.Asked.TheVariants as asked
use Rattle.value_words.specs.declared.stop.Stop.{Stop}
use Rattle.value_words.specs.declared.stop.Stop.TheVariants as stop
use Rattle.value_words.specs.Stopping.{◌>>=◌, Stops, Reader, stops, read_map}
use Rattle.value_words.specs.WordReading.{letter_at, letters_step, letters_at, part_end_at, parts_step, parts_at}

abbrev Read : Type 0 → Type 0
Read A = Result (List A × List ℕ) (Stop Asked)

-- what was read before, and what is still read
abbrev pub with_front : {A : Type 0} → List A → Result (List A × List ℕ) (Stop Asked) → Result (List A × List ℕ) (Stop Asked)
with_front front read = read >>= λ x. Ok (front ++ x.0, x.1)

regroup : {A : Type 0} (front : List A) (t : A) (read : Read A) → with_front front (read_map (λ ts. t ∷ ts) read) ≡ with_front (front ++ t ∷ []) read
regroup {A} front t (Ok x) = ap (λ (ts : List A). Ok (ts, x.1)) (sym (append_assoc front (t ∷ []) x.0))
regroup front t (Err f) = refl

pub fails_as : {X Y : Type 0} (e : Stop Asked) (read : Result X (Stop Asked)) (total other : Result Y (Stop Asked)) → (read ≡ Err e → other ≡ Err e) → other ≡ total → Stops e read → Stops e total
fails_as stop.Memory read total other h eq f = tt
fails_as (stop.At left what) read total other h eq f = sym eq ∙ h f

-- ---- letters

letters-more : (count i : ℕ) (text : List ℕ) → i < count → letters_at (count - i) text ≡ (letter_at text >>= λ l. letters_step (letters_at (count - (i + 1))) l.0 l.1)
unfolding letters_at
letters-more count i text lt = let k : count - i ≡ suc (count - (i + 1)) = omega arith in rw k refl

pub letter_more : (front : List ℕ) (count i b : ℕ) (o : Option ℕ) (text after : List ℕ) (total : Read ℕ) → i < count → letter_at text ≡ Ok (o, after) → o ≡ Some b
    → with_front front (letters_at (count - i) text) ≡ total → with_front (front ++ b ∷ []) (letters_at (count - (i + 1)) after) ≡ total
letter_more front count i b o text after total lt read is so_far =
    let h : letter_at text ≡ Ok (Some b, after) = cc in
    sym (ap (with_front front) (letters-more count i text lt ∙ ap (λ (r : Result (Option ℕ × List ℕ) (Stop Asked)). r >>= λ l. letters_step (letters_at (count - (i + 1))) l.0 l.1) h)
    ∙ regroup front b (letters_at (count - (i + 1)) after))
    ∙ so_far

pub letter_last : (front : List ℕ) (count i : ℕ) (o : Option ℕ) (text after : List ℕ) (total : Read ℕ) → i < count → letter_at text ≡ Ok (o, after) → o ≡ None
    → with_front front (letters_at (count - i) text) ≡ total → total ≡ Ok (front, after)
letter_last front count i o text after total lt read is so_far =
    let h : letter_at text ≡ Ok (None, after) = cc in
    sym so_far
    ∙ ap (with_front front) (letters-more count i text lt ∙ ap (λ (r : Result (Option ℕ × List ℕ) (Stop Asked)). r >>= λ l. letters_step (letters_at (count - (i + 1))) l.0 l.1) h)
    ∙ ap (λ (s : List ℕ). Ok (s, after)) (append-nil front)

pub letter_stops : (e : Stop Asked) (front : List ℕ) (count i : ℕ) (text : List ℕ) (total : Read ℕ) → i < count → Stops e (letter_at text)
    → with_front front (letters_at (count - i) text) ≡ total → Stops e total
letter_stops e front count i text total lt h so_far =
    fails_as e (letter_at text) total (with_front front (letters_at (count - i) text))
    (λ f. ap (with_front front) (letters-more count i text lt ∙ ap (λ (r : Result (Option ℕ × List ℕ) (Stop Asked)). r >>= λ l. letters_step (letters_at (count - (i + 1))) l.0 l.1) f))
    so_far h

pub letters_end : (front : List ℕ) (count i : ℕ) (text : List ℕ) (total : Read ℕ) → count ≤ i → with_front front (letters_at (count - i) text) ≡ total → total ≡ stops asked.Letter text
unfolding letters_at
letters_end front count i text total le so_far =
    let k : count - i ≡ 0 = omega arith in
    sym so_far ∙ ap (λ n. with_front front (letters_at n text)) k

-- ---- parts

abbrev behind_first : Reader Asked Tree → ℕ → Tree × List ℕ → Read Tree
behind_first value n first = part_end_at first.1 >>= λ end. read_map (λ ts. first.0 ∷ ts) (parts_step (parts_at value n) end.0 end.1)

abbrev behind_end : Reader Asked Tree → ℕ → Tree → Bool × List ℕ → Read Tree
behind_end value n t end = read_map (λ ts. t ∷ ts) (parts_step (parts_at value n) end.0 end.1)

parts-more : (value : Reader Asked Tree) (count i : ℕ) (text : List ℕ) → i < count → parts_at value (count - i) text ≡ (value text >>= behind_first value (count - (i + 1)))
unfolding parts_at
parts-more value count i text lt = let k : count - i ≡ suc (count - (i + 1)) = omega arith in rw k refl

parts-first : (value : Reader Asked Tree) (count i : ℕ) (text mid : List ℕ) (t : Tree) → i < count → value text ≡ Ok (t, mid) → parts_at value (count - i) text ≡ (part_end_at mid >>= behind_end value (count - (i + 1)) t)
parts-first value count i text mid t lt h = parts-more value count i text lt ∙ ap (λ (r : Result (Tree × List ℕ) (Stop Asked)). r >>= behind_first value (count - (i + 1))) h

parts-ended : (value : Reader Asked Tree) (count i : ℕ) (text mid after : List ℕ) (t : Tree) (b : Bool) → i < count → value text ≡ Ok (t, mid) → part_end_at mid ≡ Ok (b, after)
    → parts_at value (count - i) text ≡ read_map (λ ts. t ∷ ts) (parts_step (parts_at value (count - (i + 1))) b after)
parts-ended value count i text mid after t b lt h end = parts-first value count i text mid t lt h ∙ ap (λ (r : Result (Bool × List ℕ) (Stop Asked)). r >>= behind_end value (count - (i + 1)) t) end

pub part_more : (value : Reader Asked Tree) (front : List Tree) (count i : ℕ) (text mid after : List ℕ) (t : Tree) (last : Bool) (total : Read Tree) → i < count → value text ≡ Ok (t, mid) → part_end_at mid ≡ Ok (last, after) → last ≡ false
    → with_front front (parts_at value (count - i) text) ≡ total → with_front (front ++ t ∷ []) (parts_at value (count - (i + 1)) after) ≡ total
part_more value front count i text mid after t last total lt h ends is so_far =
    let end : part_end_at mid ≡ Ok (false, after) = cc in
    sym (ap (with_front front) (parts-ended value count i text mid after t false lt h end) ∙ regroup front t (parts_at value (count - (i + 1)) after)) ∙ so_far

pub part_last : (value : Reader Asked Tree) (front : List Tree) (count i : ℕ) (text mid after : List ℕ) (t : Tree) (last : Bool) (total : Read Tree) → i < count → value text ≡ Ok (t, mid) → part_end_at mid ≡ Ok (last, after) → last ≡ true
    → with_front front (parts_at value (count - i) text) ≡ total → total ≡ Ok (front ++ t ∷ [], after)
part_last value front count i text mid after t last total lt h ends is so_far =
    let end : part_end_at mid ≡ Ok (true, after) = cc in
    sym so_far ∙ ap (with_front front) (parts-ended value count i text mid after t true lt h end)

pub part_stops : (value : Reader Asked Tree) (e : Stop Asked) (front : List Tree) (count i : ℕ) (text : List ℕ) (total : Read Tree) → i < count → Stops e (value text)
    → with_front front (parts_at value (count - i) text) ≡ total → Stops e total
part_stops value e front count i text total lt h so_far =
    fails_as e (value text) total (with_front front (parts_at value (count - i) text))
    (λ f. ap (with_front front) (parts-more value count i text lt ∙ ap (λ (r : Result (Tree × List ℕ) (Stop Asked)). r >>= behind_first value (count - (i + 1))) f))
    so_far h

pub part_end_stops : (value : Reader Asked Tree) (e : Stop Asked) (front : List Tree) (count i : ℕ) (text mid : List ℕ) (t : Tree) (total : Read Tree) → i < count → value text ≡ Ok (t, mid) → Stops e (part_end_at mid)
    → with_front front (parts_at value (count - i) text) ≡ total → Stops e total
part_end_stops value e front count i text mid t total lt h end so_far =
    fails_as e (part_end_at mid) total (with_front front (parts_at value (count - i) text))
    (λ f. ap (with_front front) (parts-first value count i text mid t lt h ∙ ap (λ (r : Result (Bool × List ℕ) (Stop Asked)). r >>= behind_end value (count - (i + 1)) t) f))
    so_far end

pub parts_end : (value : Reader Asked Tree) (front : List Tree) (count i : ℕ) (text : List ℕ) (total : Read Tree) → count ≤ i → with_front front (parts_at value (count - i) text) ≡ total → total ≡ stops asked.Kind text
unfolding parts_at
parts_end value front count i text total le so_far =
    let k : count - i ≡ 0 = omega arith in
    sym so_far ∙ ap (λ n. with_front front (parts_at value n text)) k
