-- How many bytes the value in front takes.
use Rattle.std.proofs.Common.{◌≡◌, ℕ, ◌-◌, ◌≤◌, List, ◌++◌, length, Result, Ok, Err, ap, refl, arith}
use Rattle.std.specs.Prelude.{◌≢◌, IfOk, MatchResult}
use Rattle.std.specs.Borrow.{Bor}
use Rattle.std.proofs.lemmas.List.{length-append}
use Rattle.cosem_data.specs.Tree.{Tree, depth}
use Rattle.cosem_data.specs.View.{tree}
use Rattle.cosem_data.specs.declared.data.Data.{Data}
use Rattle.cosem_axdr.specs.declared.fault.ReadFault.{ReadFault}
use Rattle.cosem_axdr.specs.declared.fault.ReadFault.TheVariants.{Memory}
use Rattle.cosem_axdr.specs.Grammar.{IsEncoding, BeginsWith, BeginsWithNone}
use Rattle.cosem_axdr.specs.Reading.{Fails, Gives, data_at}
use Rattle.cosem_axdr.proofs.Numbers.{IsBytes}
use Rattle.cosem_axdr.proofs.Values.{begins_from_data, data_from_begins}

pub is_found : (bytes : List ℕ) (r : Result (Data × Bor (List ℕ)) ReadFault) → IsBytes bytes → Gives (λ x. (tree x.0, x.1.now)) r (data_at 16 bytes) → IfOk r (λ x. BeginsWith bytes (tree x.0) x.1.now)
is_found bytes (Ok x) fits e = begins_from_data bytes (tree x.0) x.1.now fits e
is_found bytes (Err f) fits e = tt

used : (bytes : List ℕ) (t : Tree) (rest : List ℕ) (h : BeginsWith bytes t rest) → length h.text ≡ length bytes - length rest
used bytes t rest h = omega (arith, length-append h.text rest, ap length h.front)

is_memory : {Y : Type 0} (e : ReadFault) (read : Result Y ReadFault) (y : Y) → Fails e read → read ≡ Ok y → e ≡ Memory
is_memory Memory read y f is = refl
is_memory _ read y f is = absurd cc

pub is_only : (bytes : List ℕ) (r : Result (Data × Bor (List ℕ)) ReadFault) → Gives (λ x. (tree x.0, x.1.now)) r (data_at 16 bytes) → (t : Tree) (rest : List ℕ) → BeginsWith bytes t rest
    → MatchResult r (λ x. (tree x.0 ≡ t) × (x.1.now ≡ rest)) (λ e. e ≡ Memory)
is_only bytes (Ok x) g t rest h =
    let e = data_from_begins bytes t rest h in
    let same : (tree x.0, x.1.now) ≡ (t, rest) = cc in
    (ap (λ (y : Tree × List ℕ). y.0) same, ap (λ (y : Tree × List ℕ). y.1) same)
is_only bytes (Err f) g t rest h = is_memory f (data_at 16 bytes) (t, rest) g (data_from_begins bytes t rest h)

pub begins : (bytes : List ℕ) (t : Tree) (front rest : List ℕ) → IsEncoding t front → depth t ≤ 16 → bytes ≡ front ++ rest → BeginsWith bytes t rest
begins bytes t front rest is nested whole = record { text = front; is = is; nested = nested; front = whole }

pub length_behind : (bytes front rest left : List ℕ) → bytes ≡ front ++ rest → left ≡ rest → length bytes - length left ≡ length front
length_behind bytes front rest left whole same = omega (arith, ap length whole, ap length same, length-append front rest)

pub begins_with_none : (bytes : List ℕ) (e : ReadFault) → Fails e (data_at 16 bytes) → e ≢ Memory → BeginsWithNone bytes
begins_with_none bytes e told other = λ t front rest is nested whole. other (is_memory e (data_at 16 bytes) (t, rest) told (data_from_begins bytes t rest (begins bytes t front rest is nested whole)))
