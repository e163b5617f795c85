-- Values and invoke bytes that are read are, with what is left, the words of what was read.
use Rattle.std.proofs.Common.{◌≡◌, ℕ, ◌<◌, Bool, true, false, cond, eqb, List, [], ◌∷◌, ◌++◌, length, Option, Some, None, Result, Ok, Err, refl, sym, ap, ◌∙◌, arith, inl, inr, ◌⊎◌}
use Rattle.std.specs.Prelude.{codes}
use Rattle.std.specs.Char.{is_ascii_digit}
use Rattle.std.specs.Fmt.{decimal}
use Rattle.std.proofs.lemmas.Bool.{eqb-true}
use Rattle.std.proofs.lemmas.List.{append-nil}
use Rattle.cosem_data.specs.Tree.{Tree}
use Rattle.cosem_data.specs.View.{data_of}
use Rattle.object_model.specs.declared.argument.Argument.{Argument}
use Rattle.object_model.specs.declared.argument.Argument.TheVariants.{Absent, Value}
use Rattle.value_words.specs.declared.fault.ValueFault.{ValueFault}
use Rattle.value_words.specs.declared.fault.ValueFault.TheVariants as fault
use Rattle.value_words.specs.Words.{value_words}
use Rattle.value_words.specs.WordReading as words
use Rattle.value_words.specs.WordReading.{number_in}
use Rattle.value_words.specs.Stopping.{stops, found, behind, mark_at, front, past}
use Rattle.value_words.proofs.Steps.{bind_ok, ok_is, chosen, some_is, then_some, found_ok}
use Rattle.value_words.proofs.Behind.{behind-takes, mark_takes}
use Rattle.value_words.proofs.Runs.{front-past}
use Rattle.value_words.proofs.Decimals.{number_takes, number_low}
use Rattle.value_words.proofs.Values.{read_is_written}
use Rattle.step_words.specs.declared.fault.Asked.TheVariants as asked
use Rattle.step_words.specs.Parts.{CanBeSent, can_be_sent, ended, value_step, sent_step, value_at}
use Rattle.step_words.specs.RequestWords.{given_words, invoke_words}
use Rattle.step_words.specs.RequestReading.{argument_at, given_at, is_over, parameter_at, invoke_in, invoke_step, invoke_at}
use Rattle.step_words.proofs.Sending.{sent_is}
use Rattle.step_words.proofs.Stops.{ended_ok}

-- ---- values

read_ok : (size : ℕ) (r : Result (Tree × List ℕ) ValueFault) (x : Tree × List ℕ) → value_step size r ≡ Ok x → r ≡ Ok x
read_ok size (Ok y) x e = let is = ok_is y x e in ap (λ (z : Tree × List ℕ). let r : Result (Tree × List ℕ) ValueFault = Ok z in r) is
read_ok size (Err fault.Memory) x e = absurd cc
read_ok size (Err (fault.At place what)) x e = absurd cc

-- a value that is read stands there, and can be sent
pub value_takes : (text : List ℕ) (t : Tree) (rest : List ℕ) → value_at text ≡ Ok (t, rest) → (text ≡ value_words t ++ rest) × CanBeSent t
unfolding value_at
value_takes text t rest e =
    let b = bind_ok (value_step (length text) (words.value_at 16 text)) (sent_step text) (t, rest) e in
    let first = read_ok (length text) (words.value_at 16 text) b.0 b.1 in
    elim (chosen (can_be_sent b.0.0) (Ok b.0) (stops asked.ShortValue text) (Ok (t, rest)) b.2) [
      | inr p ↦ let wrong = p.1 in absurd cc
      | inl p ↦
          let is : b.0 ≡ (t, rest) = ok_is b.0 (t, rest) p.1 in
          let read : words.value_at 16 text ≡ Ok (t, rest) = first ∙ ap (λ (z : Tree × List ℕ). let r : Result (Tree × List ℕ) ValueFault = Ok z in r) is in
          (read_is_written text t rest read, sent_is text t rest read (ap (λ (z : Tree × List ℕ). can_be_sent z.0) (sym is) ∙ p.0))
    ]

-- a value that an argument is
pub record IsGiven (text : List ℕ) (a : Argument) (rest : List ℕ) : Type 0 where
  pub value : Tree
  pub is : text ≡ given_words value ++ rest
  pub argument : Value (data_of value) ≡ a
  pub sent : CanBeSent value

pub given_takes : (text : List ℕ) (a : Argument) (rest : List ℕ) → given_at text ≡ Ok (a, rest) → IsGiven text a rest
unfolding given_at argument_at
given_takes text a rest e =
    let space = bind_ok (mark_at asked.Space (codes " ") text) argument_at (a, rest) e in
    let v = bind_ok (value_at space.0) (λ x. Ok (Value (data_of x.0), x.1)) (a, rest) space.2 in
    let t = value_takes space.0 v.0.0 v.0.1 v.1 in
    let is = ok_is {A = Argument × List ℕ} (Value (data_of v.0.0), v.0.1) (a, rest) v.2 in
    record {
      value = v.0.0;
      is =
          mark_takes asked.Space (codes " ") text space.0 space.1
          ∙ ap (λ (s : List ℕ). 32 ∷ s) t.0
          ∙ ap (λ (x : Argument × List ℕ). given_words v.0.0 ++ x.1) is;
      argument = ap (λ (x : Argument × List ℕ). x.0) is;
      sent = t.1;
    }

pub parameter_takes : (text : List ℕ) (a : Argument) (rest : List ℕ) → parameter_at text ≡ Ok (a, rest) → ((Absent ≡ a) × (text ≡ rest)) ⊎ IsGiven text a rest
unfolding parameter_at
parameter_takes text a rest e =
    elim (chosen (is_over text) (Ok (Absent, text)) (given_at text) (Ok (a, rest)) e) [
      | inl p ↦
          let is = ok_is {A = Argument × List ℕ} (Absent, text) (a, rest) p.1 in
          inl (ap (λ (x : Argument × List ℕ). x.0) is, ap (λ (x : Argument × List ℕ). x.1) is)
      | inr p ↦ inr (given_takes text a rest p.1)
    ]

-- ---- invoke bytes

empty : (text : List ℕ) → eqb (length text) 0 ≡ true → text ≡ []
empty [] e = refl
empty (c ∷ text) e = let same = eqb-true (length (c ∷ text)) 0 e in absurd (omega arith)

-- the words of an invoke byte to the end of the line
abbrev IsInvoke : List ℕ → ℕ → Type 0
IsInvoke text n = (text ≡ invoke_words n) × (n < 256)

-- the words of an invoke byte other than C1
words_of : (n : ℕ) → eqb n 193 ≡ false → invoke_words n ≡ codes " invoke " ++ decimal n
words_of n e = ap (λ (b : Bool). cond b [] (codes " invoke " ++ decimal n)) e

behind_word : (text rest : List ℕ) (n : ℕ) → text ≡ codes " invoke " ++ rest → invoke_step text (Some rest) ≡ Ok n → IsInvoke text n
behind_word text rest n is e =
    let digits = front is_ascii_digit rest in
    let b = bind_ok (found asked.Invoke rest (invoke_in digits) (past is_ascii_digit rest)) (λ x. ended x.0 x.1) n e in
    let f = found_ok asked.Invoke rest (invoke_in digits) (past is_ascii_digit rest) b.0.0 b.0.1 b.1 in
    let end = ended_ok b.0.0 b.0.1 n b.2 in
    let k = then_some (λ (m : ℕ). cond (eqb m 0xC1) None (Some m)) (number_in 255 digits) b.0.0 f.0 in
    elim (chosen (eqb k.0 193) None (Some k.0) (Some b.0.0) k.2) [
      | inl p ↦ let wrong = p.1 in absurd cc
      | inr p ↦
          let same : k.0 ≡ n = some_is k.0 b.0.0 p.1 ∙ end.1 in
          let low = number_low 255 k.0 digits k.1 in
          let none : past is_ascii_digit rest ≡ [] = f.1 ∙ end.0 in (
            is
                ∙ ap (λ (t : List ℕ). codes " invoke " ++ t) (sym (front-past is_ascii_digit rest)
                ∙ ap (λ (t : List ℕ). digits ++ t) none
                ∙ append-nil digits
                ∙ number_takes 255 k.0 digits (omega arith) k.1)
                ∙ sym (words_of k.0 p.0)
                ∙ ap invoke_words same,
            omega arith,
          )
    ]

pub invoke_takes : (text : List ℕ) (n : ℕ) → invoke_at text ≡ Ok n → IsInvoke text n
unfolding invoke_at
invoke_takes text n e = at (behind (codes " invoke ") text) refl e
  where
    at : (o : Option (List ℕ)) → behind (codes " invoke ") text ≡ o → invoke_step text o ≡ Ok n → IsInvoke text n
    at (Some rest) is h = behind_word text rest n (behind-takes (codes " invoke ") text rest is) h
    at None is h =
        elim (chosen (eqb (length text) 0) (Ok 193) (stops asked.InvokeOrEnd text) (Ok n) h) [
          | inl p ↦
              let same : 193 ≡ n = ok_is 193 n p.1 in
              (empty text p.0 ∙ ap invoke_words same, omega arith)
          | inr p ↦ let wrong = p.1 in absurd cc
        ]
