-- The front of a step line is read again, whatever stands behind it.
use Rattle.std.proofs.Common.{◌≡◌, ℕ, ◌<◌, Bool, true, false, cond, List, [], ◌∷◌, ◌++◌, length, Option, Result, Ok, refl, sym, ap, subst, ◌∙◌, append_assoc, arith}
use Rattle.std.specs.Prelude.{codes, is_some}
use Rattle.std.specs.Str.{bytes_eq}
use Rattle.std.proofs.lemmas.List.{append-nil, length-append}
use Rattle.cosem_data.specs.declared.name.LogicalName.{LogicalName}
use Rattle.meter_theory.specs.Times.{Moment}
use Rattle.meter_theory.specs.ClientNames.{is_name_byte, is_client_name}
use Rattle.value_text.specs.Texts.{name_in}
use Rattle.value_words.specs.declared.stop.Stop.{Stop}
use Rattle.value_words.specs.Stopping.{◌>>=◌, stops, found, mark_at, front, past}
use Rattle.value_words.proofs.Steps.{bind_ok, done, ok_is, found_ok}
use Rattle.value_words.proofs.Behind.{mark_takes}
use Rattle.value_words.proofs.Runs.{front-past, front-passes, front-again, past-again, NoneInFront}
use Rattle.step_words.specs.declared.fault.Asked.{Asked}
use Rattle.step_words.specs.declared.fault.Asked.TheVariants as asked
use Rattle.step_words.specs.declared.head.Head.{Head}
use Rattle.step_words.specs.declared.head.Head.TheVariants.{Input, Client, NamedTick, Whole}
use Rattle.step_words.specs.Parts.{ended, is_name_digit, name_at, moment_at}
use Rattle.step_words.specs.StepLines.{input_at, evaluation_at, offer_at, seconds_in, tick_at, client_at, head_step, head_at}
use Rattle.step_words.proofs.Stops.{ended_ok}

-- behind a whole line nothing stands, and behind the client named `tick` no number of seconds
abbrev pub Fits : Head → List ℕ → Type 0
Fits Whole x = x ≡ []
Fits NamedTick x = is_some (seconds_in x) ≡ false
Fits _ x = Unit {0}

-- ---- behind the first word

-- a space and a part, which are read again whatever stands behind them
record IsPart (reader : List ℕ → Result (Head × List ℕ) (Stop Asked)) (text : List ℕ) (h : Head) (rest : List ℕ) : Type 0 where
  part : List ℕ
  is : text ≡ 32 ∷ (part ++ rest)
  fits : Fits h rest
  again : (x : List ℕ) → Fits h x → reader (32 ∷ (part ++ x)) ≡ Ok (h, x)

-- a name is read again where no digit or dot stands behind it
name_again : (text : List ℕ) (d : LogicalName) (left x : List ℕ) → name_at text ≡ Ok (d, left) → NoneInFront is_name_digit x
    → (text ≡ front is_name_digit text ++ left) × (name_at (front is_name_digit text ++ x) ≡ Ok (d, x))
unfolding name_at
name_again text d left x e none =
    let s = front is_name_digit text in
    let f = found_ok asked.Name text (name_in s) (past is_name_digit text) d left e in
    let all = front-passes is_name_digit text in (
      sym (front-past is_name_digit text) ∙ ap (λ (t : List ℕ). s ++ t) f.1,
      ap (λ (t : List ℕ). found asked.Name (s ++ x) (name_in t) (past is_name_digit (s ++ x))) (front-again is_name_digit s x all none)
          ∙ ap (λ (o : Option LogicalName). found asked.Name (s ++ x) o (past is_name_digit (s ++ x))) f.0
          ∙ ap (λ (t : List ℕ). done {A = LogicalName × List ℕ} (d, t)) (past-again is_name_digit s x all none),
    )

abbrev after_name : LogicalName × List ℕ → Result (Head × List ℕ) (Stop Asked)
after_name name = mark_at asked.Space (codes " ") name.1 >>= λ value. Ok (Input, value)

input_again : (s x : List ℕ) (d : LogicalName) → name_at (s ++ 32 ∷ x) ≡ Ok (d, 32 ∷ x) → input_at (32 ∷ ((s ++ 32 ∷ []) ++ x)) ≡ Ok (Input, x)
unfolding input_at
input_again s x d h =
    ap (λ (t : List ℕ). name_at t >>= after_name) (append_assoc s (32 ∷ []) x)
    ∙ ap (λ (r : Result (LogicalName × List ℕ) (Stop Asked)). r >>= after_name) h

input_takes : (text : List ℕ) (h : Head) (rest : List ℕ) → input_at text ≡ Ok (h, rest) → IsPart input_at text h rest
unfolding input_at
input_takes text h rest e =
    let a = bind_ok (mark_at asked.Space (codes " ") text) _ (h, rest) e in
    let n = bind_ok (name_at a.0) after_name (h, rest) a.2 in
    let v = bind_ok (mark_at asked.Space (codes " ") n.0.1) _ (h, rest) n.2 in
    let s = front is_name_digit a.0 in
    subst (λ (x : Head × List ℕ). IsPart input_at text x.0 x.1) (ok_is {A = Head × List ℕ} (Input, v.0) (h, rest) v.2)
    (record {
      part = s ++ 32 ∷ [];
      is =
          mark_takes asked.Space (codes " ") text a.0 a.1
          ∙ ap (λ (t : List ℕ). 32 ∷ t) ((name_again a.0 n.0.0 n.0.1 [] n.1 tt).0
          ∙ ap (λ (t : List ℕ). s ++ t) (mark_takes asked.Space (codes " ") n.0.1 v.0 v.1)
          ∙ sym (append_assoc s (32 ∷ []) v.0));
      fits = tt;
      again = λ x f. input_again s x n.0.0 (name_again a.0 n.0.0 n.0.1 (32 ∷ x) n.1 refl).1;
    })

abbrev name_ends : LogicalName × List ℕ → Result (Head × List ℕ) (Stop Asked)
name_ends name = ended (tt {0}) name.1 >>= λ whole. Ok (Whole, name.1)

evaluation_again : (s : List ℕ) (d : LogicalName) → name_at (s ++ []) ≡ Ok (d, []) → evaluation_at (32 ∷ (s ++ [])) ≡ Ok (Whole, [])
unfolding evaluation_at
evaluation_again s d h = ap (λ (r : Result (LogicalName × List ℕ) (Stop Asked)). r >>= name_ends) h

evaluation_takes : (text : List ℕ) (h : Head) (rest : List ℕ) → evaluation_at text ≡ Ok (h, rest) → IsPart evaluation_at text h rest
unfolding evaluation_at
evaluation_takes text h rest e =
    let a = bind_ok (mark_at asked.Space (codes " ") text) _ (h, rest) e in
    let n = bind_ok (name_at a.0) name_ends (h, rest) a.2 in
    let w = bind_ok (ended (tt {0}) n.0.1) _ (h, rest) n.2 in
    let end = ended_ok (tt {0}) n.0.1 w.0 w.1 in
    let s = front is_name_digit a.0 in
    let name = name_again a.0 n.0.0 n.0.1 [] n.1 tt in
    subst (λ (x : Head × List ℕ). IsPart evaluation_at text x.0 x.1) (ok_is {A = Head × List ℕ} (Whole, n.0.1) (h, rest) w.2)
    (record {
      part = s;
      is = mark_takes asked.Space (codes " ") text a.0 a.1 ∙ ap (λ (t : List ℕ). 32 ∷ t) name.0;
      fits = end.0;
      again = λ x f. ap (λ (t : List ℕ). evaluation_at (32 ∷ (s ++ t))) f ∙ evaluation_again s n.0.0 name.1 ∙ ap (λ (t : List ℕ). done {A = Head × List ℕ} (Whole, t)) (sym f);
    })

offer_again : (text : List ℕ) (m : Moment × List ℕ) → moment_at text ≡ Ok m → offer_at (32 ∷ text) ≡ Ok (Whole, [])
unfolding offer_at
offer_again text m h = ap (λ (r : Result (Moment × List ℕ) (Stop Asked)). r >>= λ moment. done {A = Head × List ℕ} (Whole, [])) h

offer_takes : (text : List ℕ) (h : Head) (rest : List ℕ) → offer_at text ≡ Ok (h, rest) → IsPart offer_at text h rest
unfolding offer_at
offer_takes text h rest e =
    let a = bind_ok (mark_at asked.Space (codes " ") text) _ (h, rest) e in
    let m = bind_ok (moment_at a.0) _ (h, rest) a.2 in
    subst (λ (x : Head × List ℕ). IsPart offer_at text x.0 x.1) (ok_is {A = Head × List ℕ} (Whole, []) (h, rest) m.2)
    (record {
      part = a.0;
      is = mark_takes asked.Space (codes " ") text a.0 a.1 ∙ ap (λ (t : List ℕ). 32 ∷ t) (sym (append-nil a.0));
      fits = refl;
      again = λ x f.
          ap (λ (t : List ℕ). offer_at (32 ∷ (a.0 ++ t))) f
          ∙ ap (λ (t : List ℕ). offer_at (32 ∷ t)) (append-nil a.0)
          ∙ offer_again a.0 m.0 m.1
          ∙ ap (λ (t : List ℕ). done {A = Head × List ℕ} (Whole, t)) (sym f);
    })

-- by whether it is a number of seconds
abbrev ticks : List ℕ → Bool → Result (Head × List ℕ) (Stop Asked)
ticks rest b = cond b (Ok (Whole, [])) (Ok (NamedTick, rest))

tick_again : (text : List ℕ) (b : Bool) → is_some (seconds_in text) ≡ b → tick_at (32 ∷ text) ≡ ticks text b
unfolding tick_at
tick_again text b h = ap (λ (c : Bool). cond c (done {A = Head × List ℕ} (Whole, [])) (Ok (NamedTick, text))) h

tick_takes : (text : List ℕ) (h : Head) (rest : List ℕ) → tick_at text ≡ Ok (h, rest) → IsPart tick_at text h rest
unfolding tick_at
tick_takes text h rest e =
    let a = bind_ok (mark_at asked.Space (codes " ") text) _ (h, rest) e in
    at a.0 (mark_takes asked.Space (codes " ") text a.0 a.1) (is_some (seconds_in a.0)) refl a.2
  where
    at : (t : List ℕ) → text ≡ 32 ∷ t → (b : Bool) → is_some (seconds_in t) ≡ b → ticks t b ≡ Ok (h, rest) → IsPart tick_at text h rest
    at t is true seconds e =
        subst (λ (x : Head × List ℕ). IsPart tick_at text x.0 x.1) (ok_is {A = Head × List ℕ} (Whole, []) (h, rest) e)
        (record {
          part = t;
          is = is ∙ ap (λ (s : List ℕ). 32 ∷ s) (sym (append-nil t));
          fits = refl;
          again = λ x f.
              ap (λ (s : List ℕ). tick_at (32 ∷ (t ++ s))) f
              ∙ ap (λ (s : List ℕ). tick_at (32 ∷ s)) (append-nil t)
              ∙ tick_again t true seconds
              ∙ ap (λ (s : List ℕ). done {A = Head × List ℕ} (Whole, s)) (sym f);
        })
    at t is false seconds e =
        subst (λ (x : Head × List ℕ). IsPart tick_at text x.0 x.1) (ok_is {A = Head × List ℕ} (NamedTick, t) (h, rest) e)
        (record {
          part = [];
          is = is;
          fits = seconds;
          again = λ x f. tick_again x false f;
        })

client_takes : (text : List ℕ) (h : Head) (rest : List ℕ) → client_at text ≡ Ok (h, rest) → IsPart client_at text h rest
unfolding client_at
client_takes text h rest e =
    let a = bind_ok (mark_at asked.Space (codes " ") text) _ (h, rest) e in
    subst (λ (x : Head × List ℕ). IsPart client_at text x.0 x.1) (ok_is {A = Head × List ℕ} (Client, a.0) (h, rest) a.2)
    (record {
      part = [];
      is = mark_takes asked.Space (codes " ") text a.0 a.1;
      fits = tt;
      again = λ x f. refl;
    })

-- ---- the first word

-- the front by what the first word is
abbrev by_word : Bool → Bool → Bool → Bool → Bool → List ℕ → List ℕ → Result (Head × List ℕ) (Stop Asked)
by_word a b c t d text rest =
    cond a (input_at rest) (cond b (evaluation_at rest) (cond c (offer_at rest) (cond t (tick_at rest) (cond d (client_at rest) (stops asked.FirstWord text)))))

-- a space and a part behind the first word
record IsWord (a b c t d : Bool) (text : List ℕ) (h : Head) (rest : List ℕ) : Type 0 where
  part : List ℕ
  is : text ≡ 32 ∷ (part ++ rest)
  fits : Fits h rest
  again : (line x : List ℕ) → Fits h x → by_word a b c t d line (32 ∷ (part ++ x)) ≡ Ok (h, x)

word_takes : (a b c t d : Bool) (text left : List ℕ) (h : Head) (rest : List ℕ) → by_word a b c t d text left ≡ Ok (h, rest) → IsWord a b c t d left h rest
word_takes true b c t d text left h rest e = let p = input_takes left h rest e in record { part = p.part; is = p.is; fits = p.fits; again = λ l x f. p.again x f }
word_takes false true c t d text left h rest e = let p = evaluation_takes left h rest e in record { part = p.part; is = p.is; fits = p.fits; again = λ l x f. p.again x f }
word_takes false false true t d text left h rest e = let p = offer_takes left h rest e in record { part = p.part; is = p.is; fits = p.fits; again = λ l x f. p.again x f }
word_takes false false false true d text left h rest e = let p = tick_takes left h rest e in record { part = p.part; is = p.is; fits = p.fits; again = λ l x f. p.again x f }
word_takes false false false false true text left h rest e = let p = client_takes left h rest e in record { part = p.part; is = p.is; fits = p.fits; again = λ l x f. p.again x f }
word_takes false false false false false text left h rest e = absurd cc

-- a front, which is read again whatever stands behind it
pub record IsFront (text : List ℕ) (h : Head) (rest : List ℕ) : Type 0 where
  pub first : List ℕ
  pub is : text ≡ first ++ rest
  pub some : 0 < length first
  pub fits : Fits h rest
  pub again : (x : List ℕ) → Fits h x → head_at (first ++ x) ≡ Ok (h, x)

pub head_takes : (text : List ℕ) (h : Head) (rest : List ℕ) → head_at text ≡ Ok (h, rest) → IsFront text h rest
unfolding head_at
head_takes text h rest e =
    let word = front is_name_byte text in
    let all = front-passes is_name_byte text in
    let w =
    word_takes (bytes_eq word (codes "in")) (bytes_eq word (codes "eval")) (bytes_eq word (codes "at")) (bytes_eq word (codes "tick")) (is_client_name word) text (past is_name_byte text) h rest e in
    record {
      first = word ++ 32 ∷ w.part;
      is = sym (front-past is_name_byte text) ∙ ap (λ (t : List ℕ). word ++ t) w.is ∙ sym (append_assoc word (32 ∷ w.part) rest);
      some = omega (arith, length-append word (32 ∷ w.part));
      fits = w.fits;
      again = λ x f.
          let behind = 32 ∷ (w.part ++ x) in
          let whole = word ++ behind in
          ap head_at (append_assoc word (32 ∷ w.part) x)
          ∙ ap (λ (t : List ℕ). head_step whole t (past is_name_byte whole)) (front-again is_name_byte word behind all refl)
          ∙ ap (λ (t : List ℕ). head_step whole word t) (past-again is_name_byte word behind all refl)
          ∙ w.again whole x f;
    }
