-- What lines of a trail do to a meter alone.
use Rattle.std.proofs.Common.{◌≡◌, ◌∙◌, ℕ, zero, suc, ◌+◌, add-one, Bool, true, false, List, [], ◌∷◌, Option, None, Some, Result, Ok, Err, OnOk, ap, append-nil, drop, map, inl, refl, subst, sym, take}
use Rattle.std.specs.Prelude.{IfErr, codes, if◌then◌else◌, unwrap_or}
use Rattle.std.specs.List.{flat_map}
use Rattle.std.specs.Str.{bytes_eq}
use Rattle.std.proofs.lemmas.List.Elements.{All-nil}
use Rattle.std.proofs.KnownBytes.{Appends-nil, Consumes-nil}
use Rattle.civil_moment.specs.MomentText.{moment_in}
use Rattle.meter_theory.specs.Plan.{Plan, start}
use Rattle.meter_theory.specs.Replies.{run}
use Rattle.meter_theory.specs.State.{State}
use Rattle.meter_theory.specs.Steps.{Step, Tick, next}
use Rattle.meter_theory.specs.Times as times
use Rattle.cosem_data.specs.declared.name.LogicalName.{LogicalName}
use Rattle.value_text.specs.Texts.{name_in}
use Rattle.xdlms_services.specs.Solo.{Alone}
use Rattle.line_server.specs.Answering.{Take}
use Rattle.line_server.specs.LineMeter.{AnswersLine, StopsAtLine, TellsUnreadable, meter_after, replies_to, told}
use Rattle.line_server.specs.Lines.{IsLine, Moment, Puts}
use Rattle.line_server.specs.Spelling.{first_space, line_of, reply_text, unreadable_text}
use Rattle.line_server.specs.declared.fault.LineFault.{LineFault}
use Rattle.line_server.specs.declared.fault.LineFault.TheVariants.{Read, Write, Line, Memory}
use Rattle.line_server.specs.declared.line.Line.TheVariants.{Ask, At, Evaluate, Input, Skipped, Ticks, Unreadable}
use Rattle.line_server.specs.declared.reason.Reason.{Reason}
use Rattle.step_keeping.specs.Keeping.{ticks}
use Rattle.trail_lines.specs.Reading.{capture_of, clock_of, own_at, own_by, own_steps, run_of, seconds_in, seconds_of, trail_line_of, trail_tasks}
use Rattle.trail_lines.specs.Running.{AnswersTrailLine, EndsOwn, RunsTrail, StopsAtTrailLine, reason_in}
use Rattle.trail_lines.specs.declared.line.TrailLine.{TrailLine}
use Rattle.trail_lines.specs.declared.line.TrailLine.TheVariants.{CaptureIfDue, MoveClock, RunIfDue, Said, SetClock}

-- Steps of the meter itself

second-last : (P : Plan) (s : State) (n : ℕ) → run P (next P s Tick) (ticks n) ≡ next P (run P s (ticks n)) Tick
second-last P s zero = refl
second-last P s (suc n) = second-last P (next P s Tick) n

seconds-more : (P : Plan) (s : State) (n : ℕ) → run P s (ticks (n + 1)) ≡ next P (run P s (ticks n)) Tick
seconds-more P s n = ap (λ k. run P s (ticks k)) (add-one n) ∙ second-last P s n

after-takes : (P : Plan) (s : State) (steps : List Step) → meter_after P s (map Take steps) ≡ run P s steps
after-takes P s [] = refl
after-takes P s (step ∷ steps) = after-takes P (next P s step) steps

nothing-replied : (P : Plan) (s : State) (steps : List Step) → replies_to P s (map Take steps) ≡ []
nothing-replied P s [] = refl
nothing-replied P s (step ∷ steps) = nothing-replied P (next P s step) steps

-- Lines that begin with a word of the trail alone

-- what no step line says, or why it is unreadable
abbrev IsOwn : Option TrailLine → Type 0
IsOwn (Some (Said Skipped)) = ⊥
IsOwn (Some (Said (Ask ask))) = ⊥
IsOwn (Some (Said (Input cell value))) = ⊥
IsOwn (Some (Said (Evaluate monitor))) = ⊥
IsOwn (Some (Said (At moment))) = ⊥
IsOwn (Some (Said (Ticks seconds))) = ⊥
IsOwn found = Unit {0}

either : (b : Bool) (x y : Option TrailLine) → IsOwn x → IsOwn y → IsOwn (if b then x else y)
either true x y p q = p
either false x y p q = q

clock-own : (moment : Option times.Moment) → IsOwn (Some (clock_of moment))
clock-own None = tt
clock-own (Some moment) = tt

seconds-own : (seconds : Option ℕ) → IsOwn (Some (seconds_of seconds))
seconds-own None = tt
seconds-own (Some seconds) = tt

capture-own : (profile : Option LogicalName) → IsOwn (Some (capture_of profile))
capture-own None = tt
capture-own (Some profile) = tt

run-own : (schedule : Option LogicalName) → IsOwn (Some (run_of schedule))
run-own None = tt
run-own (Some schedule) = tt

by-own : (word text : List ℕ) → IsOwn (own_by word text)
by-own word text =
    let capture = Some (capture_of (name_in text)) in
    let run = if bytes_eq word (codes "run-if-due") then Some (run_of (name_in text)) else None in
    let captures = if bytes_eq word (codes "capture-if-due") then capture else run in
    let moves = if bytes_eq word (codes "move-clock") then Some (seconds_of (seconds_in text)) else captures in
    either (bytes_eq word (codes "set-clock")) (Some (clock_of (moment_in text))) moves (clock-own (moment_in text))
    (either (bytes_eq word (codes "move-clock")) (Some (seconds_of (seconds_in text))) captures (seconds-own (seconds_in text))
    (either (bytes_eq word (codes "capture-if-due")) capture run (capture-own (name_in text))
    (either (bytes_eq word (codes "run-if-due")) (Some (run_of (name_in text))) None (run-own (name_in text)) tt)))

at-own : (line : List ℕ) (space : Option ℕ) → IsOwn (own_at line space)
at-own line None = tt
at-own line (Some space) = by-own (take space line) (drop (space + 1) line)

own-tasks : (P : Plan) (own : TrailLine) → IsOwn (Some own) → reason_in own ≡ None → trail_tasks P own ≡ map Take (own_steps own)
own-tasks P (Said Skipped) is none = absurd is
own-tasks P (Said (Ask ask)) is none = absurd is
own-tasks P (Said (Input cell value)) is none = absurd is
own-tasks P (Said (Evaluate monitor)) is none = absurd is
own-tasks P (Said (At moment)) is none = absurd is
own-tasks P (Said (Ticks seconds)) is none = absurd is
own-tasks P (Said (Unreadable why)) is none = absurd cc
own-tasks P (SetClock moment) is none = refl
own-tasks P (MoveClock seconds) is none = refl
own-tasks P (CaptureIfDue profile) is none = refl
own-tasks P (RunIfDue schedule) is none = refl

reason-said : (own : TrailLine) (why : Reason) → reason_in own ≡ Some why → own ≡ Said (Unreadable why)
reason-said (Said Skipped) why is = absurd cc
reason-said (Said (Ask ask)) why is = absurd cc
reason-said (Said (Input cell value)) why is = absurd cc
reason-said (Said (Evaluate monitor)) why is = absurd cc
reason-said (Said (At moment)) why is = absurd cc
reason-said (Said (Ticks seconds)) why is = absurd cc
reason-said (Said (Unreadable told)) why is = cc
reason-said (SetClock moment) why is = absurd cc
reason-said (MoveClock seconds) why is = absurd cc
reason-said (CaptureIfDue profile) why is = absurd cc
reason-said (RunIfDue schedule) why is = absurd cc

own-said : (P : Plan) (line : List ℕ) (own : TrailLine) → own_at line (first_space line) ≡ Some own → trail_line_of P line ≡ own
own-said P line own is = ap (λ found. unwrap_or found (Said (line_of P line))) is

abbrev alone : Plan → State → Alone
alone plan meter = record { plan = plan; meter = meter }

-- one second more
pub second-taken : (old now new : Alone) (n : ℕ) → now ≡ alone old.plan (run old.plan old.meter (ticks n)) → new ≡ alone now.plan (next now.plan now.meter Tick) →
    new ≡ alone old.plan (run old.plan old.meter (ticks (n + 1)))
second-taken old now new n so_far taken =
    taken ∙ ap (λ (a : Alone). alone a.plan (next a.plan a.meter Tick)) so_far ∙ ap (alone old.plan) (sym (seconds-more old.plan old.meter n))

-- all of them
pub seconds-taken : (old now : Alone) (m n : ℕ) → m ≡ n → now ≡ alone old.plan (run old.plan old.meter (ticks m)) → now ≡ alone old.plan (run old.plan old.meter (ticks n))
seconds-taken old now m n all so_far = so_far ∙ ap (λ k. alone old.plan (run old.plan old.meter (ticks k))) all

-- its own steps are taken, and nothing is written
own-answered : (old new : Alone) (number : ℕ) (line waiting : List ℕ) (own : TrailLine) → own_at line (first_space line) ≡ Some own → reason_in own ≡ None →
    new ≡ alone old.plan (run old.plan old.meter (own_steps own)) → Puts waiting waiting (λ text. AnswersTrailLine old number line text new)
own-answered old new number line waiting own is none now =
    let said : trail_line_of old.plan line ≡ own = own-said old.plan line own is in
    let tasks : trail_tasks old.plan (trail_line_of old.plan line) ≡ map Take (own_steps own) =
    ap (trail_tasks old.plan) said ∙ own-tasks old.plan own (subst IsOwn is (at-own line (first_space line))) none in (
      [],
      sym (append-nil waiting),
      (
        (λ why bad. let wrong : None ≡ Some why = sym none ∙ ap reason_in (sym said ∙ bad) in cc),
        sym (ap (told old.plan old.meter) tasks ∙ ap (flat_map reply_text) (nothing-replied old.plan old.meter (own_steps own))),
        now ∙ ap (alone old.plan) (sym (ap (meter_after old.plan old.meter) tasks ∙ after-takes old.plan old.meter (own_steps own))),
      ),
    )

-- it is unreadable
own-ended : (old : Alone) (number : ℕ) (line waiting texts : List ℕ) (own : TrailLine) (why : Reason) (fault : LineFault) →
    own_at line (first_space line) ≡ Some own → reason_in own ≡ Some why → TellsUnreadable number why waiting texts fault →
    Puts waiting texts (λ text. StopsAtTrailLine old number line text fault)
own-ended old number line waiting texts own why Read is bad told = absurd told
own-ended old number line waiting texts own why Write is bad told = absurd told
own-ended old number line waiting texts own why (Line n reason) is bad told =
    (unreadable_text number, told.2, (own-said old.plan line own is ∙ reason-said own why bad ∙ ap (λ r. Said (Unreadable r)) (sym told.1), told.0, refl))
own-ended old number line waiting texts own why Memory is bad told = ([], told ∙ sym (append-nil waiting), refl)

own-stopped : (old : Alone) (number : ℕ) (line waiting texts : List ℕ) (own : TrailLine) (reason : Option Reason) (fault : LineFault) →
    own_at line (first_space line) ≡ Some own → reason_in own ≡ reason → EndsOwn reason number waiting texts fault →
    Puts waiting texts (λ text. StopsAtTrailLine old number line text fault)
own-stopped old number line waiting texts own (Some why) fault is bad told = own-ended old number line waiting texts own why fault is bad told
own-stopped old number line waiting texts own None fault is none told =
    subst (λ f. Puts waiting texts (λ text. StopsAtTrailLine old number line text f)) (sym told.0) ([], told.1 ∙ sym (append-nil waiting), refl)

-- what it does to a meter
pub owns-answered : (old new : Alone) (number : ℕ) (line waiting texts : List ℕ) (own : TrailLine) (r : Result (Unit {0}) LineFault) →
    own_at line (first_space line) ≡ Some own → OnOk r (reason_in own ≡ None) → OnOk r (new ≡ alone old.plan (run old.plan old.meter (own_steps own))) →
    OnOk r (texts ≡ waiting) → OnOk r (Puts waiting texts (λ text. AnswersTrailLine old number line text new))
owns-answered old new number line waiting texts own (Ok u) is none now same =
    subst (λ t. Puts waiting t (λ text. AnswersTrailLine old number line text new)) (sym same) (own-answered old new number line waiting own is none now)
owns-answered old new number line waiting texts own (Err fault) is none now same = tt

pub owns-stopped : (old : Alone) (number : ℕ) (line waiting texts : List ℕ) (own : TrailLine) (r : Result (Unit {0}) LineFault) →
    own_at line (first_space line) ≡ Some own → IfErr r (λ fault. EndsOwn (reason_in own) number waiting texts fault) →
    IfErr r (λ fault. Puts waiting texts (λ text. StopsAtTrailLine old number line text fault))
owns-stopped old number line waiting texts own (Ok u) is ended = tt
owns-stopped old number line waiting texts own (Err fault) is ended = own-stopped old number line waiting texts own (reason_in own) fault is refl ended

-- Lines that do not

step-said : (P : Plan) (line : List ℕ) → own_at line (first_space line) ≡ None → trail_line_of P line ≡ Said (line_of P line)
step-said P line none = ap (λ found. unwrap_or found (Said (line_of P line))) none

-- what a step line does is what it does in a trail
pub step-answered : (old new : Alone) (number : ℕ) (line text : List ℕ) → own_at line (first_space line) ≡ None →
    AnswersLine old number line text new → AnswersTrailLine old number line text new
step-answered old new number line text none (readable, is, now) =
    let said = step-said old.plan line none in (
      (λ why bad. readable why (let same : Said (line_of old.plan line) ≡ Said (Unreadable why) = sym said ∙ bad in cc)),
      is ∙ ap (λ l. told old.plan old.meter (trail_tasks old.plan l)) (sym said),
      now ∙ ap (λ l. alone old.plan (meter_after old.plan old.meter (trail_tasks old.plan l))) (sym said),
    )

pub step-ended : (old : Alone) (number : ℕ) (line text : List ℕ) (fault : LineFault) → own_at line (first_space line) ≡ None →
    StopsAtLine old number line text fault → StopsAtTrailLine old number line text fault
step-ended old number line text Read none stop = stop
step-ended old number line text Write none stop = stop
step-ended old number line text (Line n why) none stop = (step-said old.plan line none ∙ ap Said stop.0, stop.1, stop.2)
step-ended old number line text Memory none stop = stop

pub steps-answered : (old new : Alone) (number : ℕ) (line waiting texts : List ℕ) (r : Result (Unit {0}) LineFault) → own_at line (first_space line) ≡ None →
    OnOk r (Puts waiting texts (λ text. AnswersLine old number line text new)) → OnOk r (Puts waiting texts (λ text. AnswersTrailLine old number line text new))
steps-answered old new number line waiting texts (Ok u) none (text, put, done) = (text, put, step-answered old new number line text none done)
steps-answered old new number line waiting texts (Err fault) none done = tt

pub steps-ended : (old : Alone) (number : ℕ) (line waiting texts : List ℕ) (r : Result (Unit {0}) LineFault) → own_at line (first_space line) ≡ None →
    IfErr r (λ fault. Puts waiting texts (λ text. StopsAtLine old number line text fault)) →
    IfErr r (λ fault. Puts waiting texts (λ text. StopsAtTrailLine old number line text fault))
steps-ended old number line waiting texts (Ok u) none stop = tt
steps-ended old number line waiting texts (Err fault) none (text, put, stop) = (text, put, step-ended old number line text fault none stop)

-- Runs

-- nothing was read
pub unread : (P : Plan) (m : Moment) → RunsTrail P m m (Err Memory)
unread P m = (
  alone P (start P),
  record {
    text = [];
    wrote = Appends-nil m.written;
    ends = inl ([], [], alone P (start P), [], record { each = All-nil IsLine; led = refl; read = Consumes-nil m.unread }, refl, inl (tt, refl));
  },
)
