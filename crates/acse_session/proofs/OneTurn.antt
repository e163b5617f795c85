-- One turn of a session, by the kind of its APDU.
use Rattle.std.proofs.Common.{◌≡◌, ℕ, List, ◌∷◌, true, false, eqb, eq-eqb, Option, Some, None, Result, Ok, Err, refl, sym, ap, subst, ◌∙◌}
use Rattle.std.specs.Prelude.{IfOk, OnErr}
use Rattle.std.specs.Result.{result_ok}
use Rattle.cosem_data.specs.declared.memory.Memory.{Memory}
use Rattle.meter_theory.specs.Plan.{Plan}
use Rattle.meter_theory.specs.Replies.{Reply}
use Rattle.xdlms_services.specs.declared.request.Request.{Request}
use Rattle.xdlms_services.specs.declared.request.Request.TheVariants.{Get, Set, Act, Next}
use Rattle.xdlms_services.specs.Asking.{Asked, asking_of}
use Rattle.xdlms_services.specs.Blocks.{Transfer}
use Rattle.xdlms_services.specs.Reading.{request_at}
use Rattle.acse_association.specs.declared.association.Association.{Association}
use Rattle.acse_association.specs.Answers.{aare_bytes, rlre_bytes}
use Rattle.acse_association.specs.Answers.{is_aarq, is_rlrq}
use Rattle.acse_association.specs.Judging.{associated}
use Rattle.acse_session.specs.declared.turning.After.{After}
use Rattle.acse_session.specs.Answering.{not_allowed, unknown, reply_answer, next_answer, Brings, AnswersIn, AnswersRequest, Speaks}
use Rattle.xdlms_services.specs.Conversation.{Exchange, Leads, asked_list, Answers}
use Rattle.acse_session.specs.Keeping.{Kept}
use Rattle.acse_session.specs.Stepping.{Steps, StepsInside, begun, advanced, association_after, transfer_after}
use Rattle.acse_session.specs.Turns.{Turn, is_opening, is_release_from, opened, follows_block, block_named, long_value, in_force, sending}
use Rattle.acse_session.proofs.Refining.{in_force-more, sending-more}

pub steps-open : (plan : Plan) (old : Option Association) (sent : Option Transfer) (t : Turn) → is_aarq t.apdu ≡ true → t.asked ≡ None → t.answer ≡ aare_bytes (associated plan t.source t.apdu) → Steps plan old sent t (result_ok (associated plan t.source t.apdu)) None
unfolding is_opening opened
steps-open plan old sent t r n a = rw r ((n, a), refl, refl)

pub steps-outside : (plan : Plan) (sent : Option Transfer) (t : Turn) → is_aarq t.apdu ≡ false → t.asked ≡ None → t.answer ≡ not_allowed → Steps plan None sent t None None
unfolding is_opening
steps-outside plan sent t r n a = rw r ((n, a), refl, refl)

pub steps-elsewhere : (plan : Plan) (a : Association) (sent : Option Transfer) (t : Turn) → is_aarq t.apdu ≡ false → eqb t.source a.source ≡ false → t.asked ≡ None → t.answer ≡ not_allowed → Steps plan (Some a) sent t (Some a) sent
unfolding is_opening is_release_from
steps-elsewhere plan a sent t r s n e = rw (r, s) ((n, e), refl, rw s refl)

pub steps-release : (plan : Plan) (a : Association) (sent : Option Transfer) (t : Turn) → is_aarq t.apdu ≡ false → eqb t.source a.source ≡ true → is_rlrq t.apdu ≡ true → t.asked ≡ None → t.answer ≡ rlre_bytes → Steps plan (Some a) sent t None None
unfolding is_opening is_release_from
steps-release plan a sent t r s l n e = rw (r, s) (rw l (n, e), rw l refl, rw l refl)

pub steps-inside : (plan : Plan) (a : Association) (sent : Option Transfer) (t : Turn) (sent' : Option Transfer) → is_aarq t.apdu ≡ false → eqb t.source a.source ≡ true → is_rlrq t.apdu ≡ false → StepsInside a sent t sent' → Steps plan (Some a) sent t (Some a) sent'
unfolding is_opening is_release_from
steps-inside plan a sent t sent' r s l h = rw (r, s) (rw l h.0, rw l refl, rw l (rw s h.1))

pub inside-next : (a : Association) (sent : Option Transfer) (t : Turn) (invoke block : ℕ) → request_at t.apdu ≡ Some (Next invoke block) → t.asked ≡ None → t.answer ≡ next_answer sent invoke block → StepsInside a sent t (advanced block sent)
unfolding follows_block
inside-next a sent t invoke block r n e = rw r ((n, e), refl)

pub inside-unreadable : (a : Association) (sent : Option Transfer) (t : Turn) → request_at t.apdu ≡ None → t.asked ≡ None → t.answer ≡ unknown → StepsInside a sent t None
unfolding follows_block
inside-unreadable a sent t r n e = rw r ((n, e), rw n refl)

brings : (a : Association) (sent : Option Transfer) (t : Turn) (request : Request) → block_named (Some request) ≡ None → Brings a t (asking_of a.client request) → AnswersRequest a sent t (Some request)
brings a sent t (Get invoke attribute selection) n b = b
brings a sent t (Set invoke attribute selected value) n b = b
brings a sent t (Act invoke method argument) n b = b
brings a sent t (Next invoke block) n b = cc

pub inside-asked : (a : Association) (sent : Option Transfer) (t : Turn) (request : Request) (asked : Asked) (reply : Result Reply Memory) → request_at t.apdu ≡ Some request → block_named (Some request) ≡ None → asking_of a.client request ≡ Some asked
    → t.asked ≡ Some (record { step = asked.step; reply = reply }) → t.answer ≡ reply_answer a asked.service asked.invoke reply → StepsInside a sent t (begun a (long_value a reply))
unfolding follows_block
inside-asked a sent t request asked reply r n k h e =
    let bring : Brings a t (asking_of a.client request) = subst (λ (o : Option Asked). Brings a t o) (sym k) (reply, h, e) in
    rw r (brings a sent t request n bring, rw n (rw h refl))

-- what was kept of the turns before is kept of this one too
pub speaks-from_steps : (plan : Plan) (association : Option Association) (transfer : Option Transfer) (t : Turn) (association' : Option Association) (transfer' : Option Transfer)
    → Steps plan association transfer t association' transfer'
    → Speaks (record { plan = plan; association = association; transfer = transfer }) (record { plan = plan; association = association'; transfer = transfer' }) t
speaks-from_steps plan association transfer t association' transfer' s earlier e =
    let a : association ≡ in_force plan earlier = ap (λ (x : Kept). x.association) e in
    let b : transfer ≡ sending (in_force plan earlier) earlier = ap (λ (x : Kept). x.transfer) e in
    let a' : association' ≡ in_force plan (t ∷ earlier) = s.1 ∙ ap (λ (o : Option Association). association_after plan o t) a ∙ sym (in_force-more plan earlier t) in
    let b' : transfer' ≡ sending (in_force plan (t ∷ earlier)) (t ∷ earlier) = s.2 ∙ ap (λ (o : Option Association). transfer_after plan o transfer t) a ∙ ap (λ (o : Option Transfer). transfer_after plan (in_force plan earlier) o t) b ∙ sym (sending-more plan earlier t) in (
      subst (λ (o : Option Association). AnswersIn (is_opening t) plan o (sending (in_force plan earlier) earlier) t) a (subst (λ (o : Option Transfer). AnswersIn (is_opening t) plan association o t) b s.0),
      ap (λ (o : Option Association). let x : Kept = record { plan = plan; association = o; transfer = transfer' } in x) a' ∙ ap (λ (o : Option Transfer). let x : Kept = record { plan = plan; association = in_force plan (t ∷ earlier); transfer = o } in x) b',
    )

-- a part that answered so, and keeps that
pub after_says : {A : Type 0} (answers : Answers A) (old new : A) (plan : Plan) (association : Option Association) (transfer : Option Transfer) (source : ℕ) (apdu : List ℕ) (asked : Option Exchange) (r : Result After Memory) (a : Option Association) (t : Option Transfer) (bytes : List ℕ)
    → IfOk r (λ x. x.association ≡ a) → IfOk r (λ x. x.transfer ≡ t) → IfOk r (λ x. x.answer.items ≡ bytes)
    → Leads answers old (asked_list asked) new
    → Steps plan association transfer (record { source = source; apdu = apdu; asked = asked; answer = bytes }) a t
    → IfOk r (λ x. (e : Option Exchange) × Leads answers old (asked_list e) new × Steps plan association transfer (record { source = source; apdu = apdu; asked = e; answer = x.answer.items }) x.association x.transfer)
after_says answers old new plan association transfer source apdu asked (Err e) a t bytes p q n l s = tt
after_says answers old new plan association transfer source apdu asked (Ok x) a t bytes p q n l s = (asked, l, rw (p, q, n) s)

-- the same inside an association
pub inside_says : {A : Type 0} (answers : Answers A) (old new : A) (a : Association) (transfer : Option Transfer) (apdu : List ℕ) (asked : Option Exchange) (r : Result After Memory) (t : Option Transfer) (bytes : List ℕ)
    → IfOk r (λ x. x.transfer ≡ t) → IfOk r (λ x. x.answer.items ≡ bytes)
    → Leads answers old (asked_list asked) new
    → StepsInside a transfer (record { source = a.source; apdu = apdu; asked = asked; answer = bytes }) t
    → IfOk r (λ x. (e : Option Exchange) × Leads answers old (asked_list e) new × StepsInside a transfer (record { source = a.source; apdu = apdu; asked = e; answer = x.answer.items }) x.transfer)
inside_says answers old new a transfer apdu asked (Err e) t bytes q n l s = tt
inside_says answers old new a transfer apdu asked (Ok x) t bytes q n l s = (asked, l, rw (q, n) s)

pub on_err_from : {T E P : Type 0} (r : Result T E) → P → OnErr r P
on_err_from (Ok x) p = tt
on_err_from (Err e) p = p

-- a request that asks a step isn't one for a block
pub not-named : (client : ℕ) (request : Request) (asked : Asked) → asking_of client request ≡ Some asked → block_named (Some request) ≡ None
not-named client (Get invoke attribute selection) asked e = refl
not-named client (Set invoke attribute selected value) asked e = refl
not-named client (Act invoke method argument) asked e = refl
not-named client (Next invoke block) asked e = cc

-- what answered inside an association, as a turn
pub turn-inside : {A : Type 0} (answers : Answers A) (old new : A) (plan : Plan) (a : Association) (transfer : Option Transfer) (source : ℕ) (apdu : List ℕ) (r : Result After Memory)
    → is_aarq apdu ≡ false → source ≡ a.source → is_rlrq apdu ≡ false
    → IfOk r (λ x. (e : Option Exchange) × Leads answers old (asked_list e) new × StepsInside a transfer (record { source = a.source; apdu = apdu; asked = e; answer = x.answer.items }) x.transfer)
    → IfOk r (λ x. x.association ≡ Some a)
    → IfOk r (λ x. (e : Option Exchange) × Leads answers old (asked_list e) new × Steps plan (Some a) transfer (record { source = source; apdu = apdu; asked = e; answer = x.answer.items }) x.association x.transfer)
turn-inside answers old new plan a transfer source apdu (Err e) o s l h k = tt
turn-inside answers old new plan a transfer source apdu (Ok x) o s l h k =
    rw (s, k) (h.0, h.1, steps-inside plan a transfer (record { source = a.source; apdu = apdu; asked = h.0; answer = x.answer.items }) x.transfer o (eq-eqb a.source a.source refl) l h.2)
