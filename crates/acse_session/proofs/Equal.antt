-- Equal APDUs and equal replies have equal answers: the turns themselves are equal.
use Rattle.std.proofs.Common.{◌≡◌, ℕ, List, [], ◌∷◌, ◌++◌, Bool, true, false, eqb, length, take, drop, Option, Some, None, refl, sym, ap, subst, ◌∙◌, arith}
use Rattle.std.proofs.lemmas.List.{length-append, take_at, drop_at}
use Rattle.meter_theory.specs.Plan.{Plan}
use Rattle.xdlms_services.specs.declared.request.Request.{Request}
use Rattle.xdlms_services.specs.declared.request.Request.TheVariants.{Get, Set, Act, Next}
use Rattle.xdlms_services.specs.Asking.{Asked, asking_of}
use Rattle.xdlms_services.specs.Blocks.{Transfer}
use Rattle.xdlms_services.specs.Reading.{request_at}
use Rattle.acse_association.specs.declared.association.Association.{Association}
use Rattle.acse_association.specs.Answers.{aare_bytes, rlre_bytes}
use Rattle.acse_association.specs.Answers.{is_aarq, is_rlrq}
use Rattle.acse_association.specs.Judging.{associated}
use Rattle.acse_session.specs.Answering.{not_allowed, unknown, reply_answer, next_answer, Says, Brings, AnswersRequest, AnswersInside, AnswersHere, AnswersFrom, AnswersIn, IsSpoken}
use Rattle.xdlms_services.specs.Conversation.{Exchange, asked_list}
use Rattle.acse_session.specs.Laws.{message, messages, answers, conversation, EqualAnswers}
use Rattle.acse_session.specs.Stepping.{association_after}
use Rattle.acse_session.specs.Turns.{Turn, is_opening, is_release_from, opened, in_force, sending}
use Rattle.acse_session.proofs.Refining.{in_force-more}

-- ---- the association in force

-- the association behind a turn is decided by what came in it
same-after : (plan : Plan) (o : Option Association) (x y : Turn) → message x ≡ message y → association_after plan o x ≡ association_after plan o y
unfolding is_opening is_release_from opened
same-after plan o x y m =
    ap (λ (k : ℕ × List ℕ). association_after plan o (record { source = k.0; apdu = k.1; asked = None; answer = [] })) m

same-in_force : (plan : Plan) (xs ys : List Turn) → messages xs ≡ messages ys → in_force plan xs ≡ in_force plan ys
same-in_force plan [] [] m = refl
same-in_force plan [] (y ∷ ys) m = cc
same-in_force plan (x ∷ xs) [] m = cc
same-in_force plan (x ∷ xs) (y ∷ ys) m =
    let first : message x ≡ message y = cc in
    let rest : messages xs ≡ messages ys = cc in
    in_force-more plan xs x
    ∙ same-after plan (in_force plan xs) x y first
    ∙ ap (λ (o : Option Association). association_after plan o y) (same-in_force plan xs ys rest)
    ∙ sym (in_force-more plan ys y)

-- ---- two turns in which the same came

-- they ask equally much; and if the transfers were the same and they asked the same, they answer the same
abbrev Alike : Option Transfer → Option Transfer → Turn → Turn → Type 0
Alike s t x y = (length (asked_list x.asked) ≡ length (asked_list y.asked)) × (s ≡ t → x.asked ≡ y.asked → x.answer ≡ y.answer)

says-alike : (s t : Option Transfer) (x y : Turn) (text other : List ℕ) → (s ≡ t → text ≡ other) → Says x text → Says y other → Alike s t x y
says-alike s t x y text other same p q = (rw (p.0, q.0) refl, λ e f. p.1 ∙ same e ∙ sym q.1)

brings-alike : (a : Association) (s t : Option Transfer) (x y : Turn) (o : Option Asked) → Brings a x o → Brings a y o → Alike s t x y
brings-alike a s t x y None p q = absurd p
brings-alike a s t x y (Some asked) p q = (
  rw (p.1, q.1) refl,
  λ e f.
      let mine : Exchange = record { step = asked.step; reply = p.0 } in
      let yours : Exchange = record { step = asked.step; reply = q.0 } in
      let both : Some mine ≡ Some yours = sym p.1 ∙ f ∙ q.1 in
      let same : mine ≡ yours = cc in
      p.2 ∙ ap (λ (z : Exchange). reply_answer a asked.service asked.invoke z.reply) same ∙ sym q.2,
)

request-alike : (a : Association) (s t : Option Transfer) (x y : Turn) (o : Option Request) → AnswersRequest a s x o → AnswersRequest a t y o → Alike s t x y
request-alike a s t x y None p q = says-alike s t x y unknown unknown (λ e. refl) p q
request-alike a s t x y (Some (Next invoke block)) p q = says-alike s t x y (next_answer s invoke block) (next_answer t invoke block) (λ e. ap (λ (r : Option Transfer). next_answer r invoke block) e) p q
request-alike a s t x y (Some (Get invoke attribute selection)) p q = brings-alike a s t x y (asking_of a.client (Get invoke attribute selection)) p q
request-alike a s t x y (Some (Set invoke attribute selected value)) p q = brings-alike a s t x y (asking_of a.client (Set invoke attribute selected value)) p q
request-alike a s t x y (Some (Act invoke method argument)) p q = brings-alike a s t x y (asking_of a.client (Act invoke method argument)) p q

inside-alike : (b : Bool) (a : Association) (s t : Option Transfer) (x y : Turn) → y.apdu ≡ x.apdu → AnswersInside b a s x → AnswersInside b a t y → Alike s t x y
inside-alike true a s t x y e p q = says-alike s t x y rlre_bytes rlre_bytes (λ f. refl) p q
inside-alike false a s t x y e p q = request-alike a s t x y (request_at x.apdu) p (subst (λ (apdu : List ℕ). AnswersRequest a t y (request_at apdu)) e q)

here-alike : (b : Bool) (a : Association) (s t : Option Transfer) (x y : Turn) → y.apdu ≡ x.apdu → AnswersHere b a s x → AnswersHere b a t y → Alike s t x y
here-alike true a s t x y e p q = inside-alike (is_rlrq x.apdu) a s t x y e p (subst (λ (apdu : List ℕ). AnswersInside (is_rlrq apdu) a t y) e q)
here-alike false a s t x y e p q = says-alike s t x y not_allowed not_allowed (λ f. refl) p q

from-alike : (o : Option Association) (s t : Option Transfer) (x y : Turn) → y.source ≡ x.source → y.apdu ≡ x.apdu → AnswersFrom o s x → AnswersFrom o t y → Alike s t x y
from-alike None s t x y d e p q = says-alike s t x y not_allowed not_allowed (λ f. refl) p q
from-alike (Some a) s t x y d e p q = here-alike (eqb x.source a.source) a s t x y e p (subst (λ (source : ℕ). AnswersHere (eqb source a.source) a t y) d q)

in-alike : (b : Bool) (plan : Plan) (o : Option Association) (s t : Option Transfer) (x y : Turn) → y.source ≡ x.source → y.apdu ≡ x.apdu → AnswersIn b plan o s x → AnswersIn b plan o t y → Alike s t x y
in-alike true plan o s t x y d e p q =
    says-alike s t x y (aare_bytes (associated plan x.source x.apdu)) (aare_bytes (associated plan y.source y.apdu)) (λ f. rw (d, e) refl) p q
in-alike false plan o s t x y d e p q = from-alike o s t x y d e p q

turn-alike : (plan : Plan) (o : Option Association) (s t : Option Transfer) (x y : Turn) → message x ≡ message y → AnswersIn (is_opening x) plan o s x → AnswersIn (is_opening y) plan o t y → Alike s t x y
unfolding is_opening
turn-alike plan o s t x y m p q =
    let d : y.source ≡ x.source = sym (ap (λ (k : ℕ × List ℕ). k.0) m) in
    let e : y.apdu ≡ x.apdu = sym (ap (λ (k : ℕ × List ℕ). k.1) m) in
    in-alike (is_aarq x.apdu) plan o s t x y d e p (subst (λ (apdu : List ℕ). AnswersIn (is_aarq apdu) plan o t y) e q)

-- ---- all turns

-- equal joined lists have equal parts, where the latter are equally long
parts : {X : Type 0} (ms ns ps qs : List X) → length ps ≡ length qs → ms ++ ps ≡ ns ++ qs → (ms ≡ ns) × (ps ≡ qs)
parts {X} ms ns ps qs n e =
    let m : length ms ≡ length ns = omega (arith, n, length-append ms ps, length-append ns qs, ap (λ (xs : List X). length xs) e) in (
      sym (take_at ms ps (length ns) m) ∙ ap (λ (xs : List X). take (length ns) xs) e ∙ take_at ns qs (length ns) refl,
      sym (drop_at ms ps (length ns) m) ∙ ap (λ (xs : List X). drop (length ns) xs) e ∙ drop_at ns qs (length ns) refl,
    )

same-asked : (o p : Option Exchange) → asked_list o ≡ asked_list p → o ≡ p
same-asked None None e = refl
same-asked None (Some y) e = cc
same-asked (Some x) None e = cc
same-asked (Some x) (Some y) e = cc

same-turn : (x y : Turn) → message x ≡ message y → x.asked ≡ y.asked → x.answer ≡ y.answer → x ≡ y
same-turn x y m e f =
    ap (λ (k : ℕ × List ℕ). let z : Turn = record { source = k.0; apdu = k.1; asked = x.asked; answer = x.answer } in z) m
    ∙ ap (λ (o : Option Exchange). let z : Turn = record { source = y.source; apdu = y.apdu; asked = o; answer = x.answer } in z) e
    ∙ ap (λ (a : List ℕ). let z : Turn = record { source = y.source; apdu = y.apdu; asked = y.asked; answer = a } in z) f

same-turns : (plan : Plan) (xs ys : List Turn) → IsSpoken plan xs → IsSpoken plan ys → messages xs ≡ messages ys → conversation xs ≡ conversation ys → xs ≡ ys
same-turns plan [] [] p q m c = refl
same-turns plan [] (y ∷ ys) p q m c = cc
same-turns plan (x ∷ xs) [] p q m c = cc
same-turns plan (x ∷ xs) (y ∷ ys) p q m c =
    let first : message x ≡ message y = cc in
    let rest : messages xs ≡ messages ys = cc in
    let force : in_force plan ys ≡ in_force plan xs = sym (same-in_force plan xs ys rest) in
    let alike : Alike (sending (in_force plan xs) xs) (sending (in_force plan ys) ys) x y =
    turn-alike plan (in_force plan xs) (sending (in_force plan xs) xs) (sending (in_force plan ys) ys) x y first p.0
    (subst (λ (o : Option Association). AnswersIn (is_opening y) plan o (sending (in_force plan ys) ys) y) force q.0) in
    let both : (conversation xs ≡ conversation ys) × (asked_list x.asked ≡ asked_list y.asked) = parts (conversation xs) (conversation ys) (asked_list x.asked) (asked_list y.asked) alike.0 c in
    let before : xs ≡ ys = same-turns plan xs ys p.1 q.1 rest both.0 in
    let asked : x.asked ≡ y.asked = same-asked x.asked y.asked both.1 in
    let last : x ≡ y = same-turn x y first asked (alike.1 (ap (λ (zs : List Turn). sending (in_force plan zs) zs) before) asked) in
    rw (last, before) refl

pub equal_answers_lem : EqualAnswers
equal_answers_lem plan xs ys p q m c = ap (λ (zs : List Turn). answers zs) (same-turns plan xs ys p q m c)
