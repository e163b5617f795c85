-- What lines give an asker to do, and what it does to a meter alone.
use Rattle.std.proofs.Common.{◌≡◌, ℕ, zero, suc, ◌+◌, ◌-◌, ◌<◌, List, [], ◌∷◌, ◌++◌, take, drop, length, get_or, Option, Some, None, Result, Ok, Err, OnOk, OnErr, inl, refl, sym, ap, subst, ◌∙◌, append-nil, append_assoc, zero-add, suc-add, arith}
use Rattle.std.specs.Prelude.{false, is_some, option_to_list, IfErr}
use Rattle.std.specs.List.{flat_map, filter_map}
use Rattle.std.proofs.lemmas.List.{take_more, take-append-drop}
use Rattle.std.proofs.lemmas.List.Elements.{filter_map-append}
use Rattle.cosem_data.specs.declared.memory.Memory.{Memory as NoMemory}
use Rattle.meter_theory.specs.Plan.{Plan, Object}
use Rattle.meter_theory.specs.State.{State}
use Rattle.meter_theory.specs.Steps.{Step, next}
use Rattle.meter_theory.specs.Replies.{Reply}
use Rattle.meter_core.specs.Moments.{offered, second_steps, tick_steps}
use Rattle.xdlms_services.specs.Asking.{Asked, asking_at, apdu_of}
use Rattle.xdlms_services.specs.Conversation.{Answers}
use Rattle.xdlms_services.specs.Solo.{Alone, AnswersAlone}
use Rattle.line_server.specs.Asking.{Ask}
use Rattle.line_server.specs.Answering.{Task, Answer, Take, next_by, reply_by, next_of, reply_of_ask}
use Rattle.line_server.specs.Doing.{DoesAsked, AnswersAsk, MayAsk, FailsAsk, Does, TakesAll, StopsBehind, TakesLine}
use Rattle.line_server.specs.Lines.{Puts}
use Rattle.line_server.specs.Running.{tasks_in}
use Rattle.line_server.specs.LineMeter.{meter_after, replies_to, TellsUnreadable, AnswersLine, StopsAtLine}
use Rattle.line_server.specs.Spelling.{line_of, reply_text, unreadable_text}
use Rattle.line_server.specs.declared.line.Line.{Line as LineValue}
use Rattle.line_server.specs.declared.line.Line.TheVariants.{Unreadable}
use Rattle.line_server.specs.declared.reason.Reason.{Reason}
use Rattle.line_server.specs.declared.fault.LineFault.{LineFault}
use Rattle.line_server.specs.declared.fault.LineFault.TheVariants.{Read, Write, Line, Memory}

-- ---- one APDU

-- what is asked is what the bytes are
pub answers_ask-at : {A : Type 0} (answers : Answers A) (old : A) (ask : Ask) (given : Option Asked) (apdu : List ℕ) (new : A)
    → asking_at ask.client ask.apdu ≡ given → DoesAsked answers old given apdu new → AnswersAsk answers old ask apdu new
unfolding AnswersAsk
answers_ask-at answers old ask given apdu new e d = subst (λ (a : Option Asked). DoesAsked answers old a apdu new) (sym e) d

pub fails_ask-at : {A : Type 0} (answers : Answers A) (old : A) (ask : Ask) (given : Option Asked) (new : A)
    → asking_at ask.client ask.apdu ≡ given → MayAsk answers old given new → FailsAsk answers old ask new
unfolding FailsAsk
fails_ask-at answers old ask given new e d = subst (λ (a : Option Asked). MayAsk answers old a new) (sym e) d

-- nothing was done yet
stays : {A : Type 0} (answers : Answers A) (old : A) (asked : Option Asked) → MayAsk answers old asked old
stays answers old None = refl
stays answers old (Some asked) = inl refl

pub fails_ask-first : {A : Type 0} (answers : Answers A) (old : A) (ask : Ask) → FailsAsk answers old ask old
unfolding FailsAsk
fails_ask-first answers old ask = stays answers old (asking_at ask.client ask.apdu)

-- ---- steps, one after another

pub takes-append : {A : Type 0} (answers : Answers A) (old mid new : A) (xs ys : List Step) → TakesAll answers old xs mid → TakesAll answers mid ys new → TakesAll answers old (xs ++ ys) new
takes-append answers old mid new [] ys t u = subst (λ (a : _). TakesAll answers a ys new) t.1 u
takes-append answers old mid new (x ∷ xs) ys t u = (t.0, t.1, t.2, takes-append answers t.0 mid new xs ys t.3 u)

-- memory was refused behind more steps
stops-push : {A : Type 0} (answers : Answers A) (old mid new : A) (xs ys more : List Step) → TakesAll answers old xs mid → StopsBehind answers mid ys new → StopsBehind answers old (xs ++ (ys ++ more)) new
stops-push answers old mid new xs ys more t s = (
  xs ++ s.0,
  s.1,
  s.2 ++ more,
  s.3,
  s.4,
  ap (λ (l : List Step). xs ++ (l ++ more)) s.5 ∙ ap (λ (l : List Step). xs ++ l) (append_assoc s.0 (s.1 ∷ s.2) more) ∙ sym (append_assoc xs s.0 (s.1 ∷ (s.2 ++ more))),
  takes-append answers old mid s.3 xs s.0 t s.6,
  s.7,
)

-- memory was refused for the first step
pub stops-first : {A B : Type 0} (answers : Answers A) (old new : A) (found : Option Step) (step : Step) (refused : NoMemory) (r : Result B NoMemory)
    → found ≡ Some step → answers old step (Err refused) new → OnErr r (StopsBehind answers old (option_to_list found) new)
stops-first answers old new found step refused (Ok u) is a = tt
stops-first answers old new found step refused (Err e) is a =
    subst (λ (o : Option Step). StopsBehind answers old (option_to_list o) new) (sym is) ([], step, [], old, refused, refl, (refl, refl), a)

-- ---- a moment

one_offered : {X Y : Type 0} (f : X → Option Y) (x : X) (found : Option Y) → f x ≡ found → filter_map f (x ∷ []) ≡ option_to_list found
one_offered f x None e = rw e refl
one_offered f x (Some y) e = rw e refl

-- what is offered to the objects up to one more
pub offered_up-to : (objects : List Object) (i : ℕ) (o : Object) → i < length objects → o ≡ get_or objects i o
    → filter_map offered (take i objects) ++ option_to_list (offered o) ≡ filter_map offered (take (i + 1) objects)
offered_up-to objects i o within is =
    let front = filter_map offered (take i objects) in
    ap (λ (l : List Step). front ++ l) (sym (one_offered offered o (offered o) refl))
    ∙ ap (λ (x : Object). front ++ filter_map offered (x ∷ [])) is
    ∙ sym (filter_map-append offered (take i objects) (get_or objects i o ∷ []))
    ∙ ap (λ (l : List Object). filter_map offered l) (sym (take_more objects i o within))

-- the asker behind one object more
pub offered-more : {A : Type 0} (answers : Answers A) (old mid new : A) (objects : List Object) (i : ℕ) (o : Object) → i < length objects → o ≡ get_or objects i o
    → TakesAll answers old (filter_map offered (take i objects)) mid → TakesAll answers mid (option_to_list (offered o)) new
    → TakesAll answers old (filter_map offered (take (i + 1) objects)) new
offered-more answers old mid new objects i o within is before after =
    subst (λ (steps : List Step). TakesAll answers old steps new) (offered_up-to objects i o within is)
    (takes-append answers old mid new (filter_map offered (take i objects)) (option_to_list (offered o)) before after)

-- none is offered to the object
pub none-offered : {A : Type 0} (answers : Answers A) (old new : A) (objects : List Object) (i : ℕ) (o : Object) → i < length objects → o ≡ get_or objects i o
    → TakesAll answers old (filter_map offered (take i objects)) new → is_some (offered o) ≡ false → TakesAll answers old (filter_map offered (take (i + 1) objects)) new
none-offered answers old new objects i o within is before none = offered-more answers old new new objects i o within is before (nothing (offered o) none)
  where
    nothing : (found : Option Step) → is_some found ≡ false → TakesAll answers new (option_to_list found) new
    nothing None none = (refl, refl)
    nothing (Some step) none = cc

-- memory was refused for an object's step
pub offered-stops : {A : Type 0} (answers : Answers A) (old mid new : A) (objects : List Object) (i : ℕ) (o : Object) → i < length objects → o ≡ get_or objects i o
    → TakesAll answers old (filter_map offered (take i objects)) mid → StopsBehind answers mid (option_to_list (offered o)) new → StopsBehind answers old (filter_map offered objects) new
offered-stops answers old mid new objects i o within is before stop =
    let front = filter_map offered (take i objects) in
    let more = filter_map offered (drop (i + 1) objects) in
    subst (λ (steps : List Step). StopsBehind answers old steps new)
    (sym (append_assoc front (option_to_list (offered o)) more)
    ∙ ap (λ (l : List Step). l ++ more) (offered_up-to objects i o within is)
    ∙ sym (filter_map-append offered (take (i + 1) objects) (drop (i + 1) objects))
    ∙ ap (filter_map offered) (take-append-drop (i + 1) objects))
    (stops-push answers old mid new front (option_to_list (offered o)) more before stop)

-- ---- seconds that pass

-- so many seconds, and then as many more
ticks-split : (plan : Plan) (m n : ℕ) → tick_steps plan (m + n) ≡ tick_steps plan m ++ tick_steps plan n
unfolding tick_steps
ticks-split plan zero n = rw zero-add refl
ticks-split plan (suc m) n = rw suc-add (ap (λ (l : List Step). second_steps plan ++ l) (ticks-split plan m n) ∙ sym (append_assoc (second_steps plan) (tick_steps plan m) (tick_steps plan n)))

one-tick : (plan : Plan) → tick_steps plan 1 ≡ second_steps plan
unfolding tick_steps
one-tick plan = append-nil (second_steps plan)

-- the asker behind one second more
pub ticks-more : {A : Type 0} (answers : Answers A) (plan : Plan) (old mid new : A) (i : ℕ)
    → TakesAll answers old (tick_steps plan i) mid → TakesAll answers mid (second_steps plan) new → TakesAll answers old (tick_steps plan (i + 1)) new
ticks-more answers plan old mid new i before after =
    subst (λ (steps : List Step). TakesAll answers old steps new) (ap (λ (l : List Step). tick_steps plan i ++ l) (sym (one-tick plan)) ∙ sym (ticks-split plan i 1))
    (takes-append answers old mid new (tick_steps plan i) (second_steps plan) before after)

-- memory was refused in one of the seconds
pub ticks-stop : {A : Type 0} (answers : Answers A) (plan : Plan) (old mid new : A) (i n : ℕ) → i < n
    → TakesAll answers old (tick_steps plan i) mid → StopsBehind answers mid (second_steps plan) new → StopsBehind answers old (tick_steps plan n) new
ticks-stop answers plan old mid new i n within before stop =
    let whole : i + (1 + (n - (i + 1))) ≡ n = omega arith in
    let rest = tick_steps plan (n - (i + 1)) in
    subst (λ (steps : List Step). StopsBehind answers old steps new)
    (ap (λ (l : List Step). tick_steps plan i ++ (l ++ rest)) (sym (one-tick plan))
    ∙ ap (λ (l : List Step). tick_steps plan i ++ l) (sym (ticks-split plan 1 (n - (i + 1))))
    ∙ sym (ticks-split plan i (1 + (n - (i + 1))))
    ∙ ap (tick_steps plan) whole)
    (stops-push answers old mid new (tick_steps plan i) (second_steps plan) rest before stop)

-- an asker that took a step takes others behind it
pub takes-first : {A : Type 0} (answers : Answers A) (old mid new : A) (x : Step) (xs : List Step) (reply : Reply) (r : Result (Unit {0}) NoMemory) → answers old x (Ok reply) mid
    → OnOk r (TakesAll answers mid xs new) → OnOk r (TakesAll answers old (x ∷ xs) new)
takes-first answers old mid new x xs reply (Ok u) a t = (mid, reply, a, t)
takes-first answers old mid new x xs reply (Err e) a t = tt

-- or stops at one of these
pub stops-later : {A : Type 0} (answers : Answers A) (old mid new : A) (x : Step) (xs : List Step) (reply : Reply) (r : Result (Unit {0}) NoMemory) → answers old x (Ok reply) mid
    → OnErr r (StopsBehind answers mid xs new) → OnErr r (StopsBehind answers old (x ∷ xs) new)
stops-later answers old mid new x xs reply (Ok u) a s = tt
stops-later answers old mid new x xs reply (Err e) a s = (x ∷ s.0, s.1, s.2, s.3, s.4, ap (λ (l : List Step). x ∷ l) s.5, (mid, reply, a, s.6), s.7)

-- or at the step itself
pub stops-at : {A : Type 0} (answers : Answers A) (old new : A) (x : Step) (xs : List Step) (refused : NoMemory) (r : Result (Unit {0}) NoMemory) → answers old x (Err refused) new
    → OnErr r (StopsBehind answers old (x ∷ xs) new)
stops-at answers old new x xs refused (Ok u) a = tt
stops-at answers old new x xs refused (Err e) a = ([], x, xs, old, refused, refl, (refl, refl), a)

-- ---- one line

-- a line says this, and it was done
pub line-done : {A : Type 0} (answers : Answers A) (plan : Plan) (old new : A) (number : ℕ) (line waiting texts : List ℕ) (said : LineValue) (apdus : List (List ℕ)) (u : Unit {0})
    → said ≡ line_of plan line → ((why : _) → said ≡ Unreadable why → ⊥) → Does answers old (tasks_in plan said) apdus new → texts ≡ waiting ++ flat_map reply_text apdus
    → TakesLine answers plan old new number line waiting texts (Ok u)
line-done answers plan old new number line waiting texts said apdus u e readable d is = (
  λ why bad. readable why (e ∙ bad),
  apdus,
  subst (λ (s : LineValue). Does answers old (tasks_in plan s) apdus new) e d,
  is,
)

-- ---- a meter alone

abbrev alone : Plan → State → Alone
alone plan meter = record { plan = plan; meter = meter }

asked-alone : (plan : Plan) (meter : State) (asked : Option Asked) (apdu : List ℕ) (new : Alone) → DoesAsked AnswersAlone (alone plan meter) asked apdu new
    → (apdu ≡ reply_by plan meter asked) × (new ≡ alone plan (next_by plan meter asked))
asked-alone plan meter None apdu new d = d
asked-alone plan meter (Some asked) apdu new (reply, (is, now), put) = (put ∙ ap (apdu_of asked) is, now)

ask-alone : (plan : Plan) (meter : State) (ask : Ask) (apdu : List ℕ) (new : Alone) → AnswersAsk AnswersAlone (alone plan meter) ask apdu new
    → (apdu ≡ reply_of_ask plan meter ask) × (new ≡ alone plan (next_of plan meter ask))
unfolding AnswersAsk reply_of_ask next_of
ask-alone plan meter ask apdu new d = asked-alone plan meter (asking_at ask.client ask.apdu) apdu new d

-- a meter alone does tasks by the run of their steps
does-alone : (plan : Plan) (meter : State) (tasks : List Task) (apdus : List (List ℕ)) (new : Alone) → Does AnswersAlone (alone plan meter) tasks apdus new
    → (apdus ≡ replies_to plan meter tasks) × (new ≡ alone plan (meter_after plan meter tasks))
does-alone plan meter [] apdus new d = d
does-alone plan meter (Answer ask ∷ tasks) apdus new (mid, apdu, others, a, d, is) =
    let k = ask-alone plan meter ask apdu mid a in
    let more = does-alone plan (next_of plan meter ask) tasks others new (subst (λ (s : Alone). Does AnswersAlone s tasks others new) k.1 d) in
    (is ∙ ap (λ (x : List ℕ). x ∷ others) k.0 ∙ ap (λ (l : List (List ℕ)). reply_of_ask plan meter ask ∷ l) more.0, more.1)
does-alone plan meter (Take step ∷ tasks) apdus new (mid, reply, a, d) = does-alone plan (next plan meter step) tasks apdus new (subst (λ (s : Alone). Does AnswersAlone s tasks apdus new) a.1 d)

-- an unreadable line gives nothing to do
pub line-ended : {A : Type 0} (answers : Answers A) (plan : Plan) (old : A) (number : ℕ) (line waiting texts : List ℕ) (why : Reason) (fault : LineFault) → line_of plan line ≡ Unreadable why
    → TellsUnreadable number why waiting texts fault → TakesLine answers plan old old number line waiting texts (Err fault)
line-ended answers plan old number line waiting texts why Read bad t = absurd t
line-ended answers plan old number line waiting texts why Write bad t = absurd t
line-ended answers plan old number line waiting texts why (Line n told) bad t = (bad ∙ ap Unreadable (sym t.1), t.0, t.2, refl)
line-ended answers plan old number line waiting texts why Memory bad t = t

-- what a line does to it, as its text
pub line-answered : (old new : Alone) (number : ℕ) (line waiting texts : List ℕ) (r : Result (Unit {0}) LineFault) → TakesLine AnswersAlone old.plan old new number line waiting texts r
    → OnOk r (Puts waiting texts (λ text. AnswersLine old number line text new))
line-answered old new number line waiting texts (Ok u) (readable, apdus, d, is) =
    let k = does-alone old.plan old.meter (tasks_in old.plan (line_of old.plan line)) apdus new d in (flat_map reply_text apdus, is, (readable, ap (flat_map reply_text) k.0, k.1))
line-answered old new number line waiting texts (Err fault) t = tt

pub line-stopped : (old new : Alone) (number : ℕ) (line waiting texts : List ℕ) (r : Result (Unit {0}) LineFault) → TakesLine AnswersAlone old.plan old new number line waiting texts r
    → IfErr r (λ fault. Puts waiting texts (λ text. StopsAtLine old number line text fault))
line-stopped old new number line waiting texts (Ok u) t = tt
line-stopped old new number line waiting texts (Err Read) t = absurd t
line-stopped old new number line waiting texts (Err Write) t = absurd t
line-stopped old new number line waiting texts (Err (Line n why)) (bad, is, put, same) = (unreadable_text number, put, (bad, is, refl))
line-stopped old new number line waiting texts (Err Memory) t = ([], t ∙ sym (append-nil waiting), refl)
