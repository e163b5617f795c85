-- The first step that a client could notice.
use Rattle.std.proofs.Common.{◌≡◌, ℕ, suc, zero, ◌+◌, ◌<◌, Bool, true, false, ◌&&◌, cond, List, [], ◌∷◌, ◌++◌, length, map, take, drop, get_or, Option, Some, None, refl, sym, ap, ◌∙◌, arith, codes}
use Rattle.std.specs.Prelude.{is_some, option_map, option_to_list}
use Rattle.std.specs.List.{filter_map, list_all}
use Rattle.std.proofs.lemmas.List.{take-append-drop}
use Rattle.std.proofs.lemmas.List.Elements.{filter_map-append}
use Rattle.meter_theory.specs.Notice.{Notice}
use Rattle.meter_theory.specs.Plan.{Plan, Object}
use Rattle.meter_theory.specs.Steps.{Step}
use Rattle.flow_checker.specs.Accepted.{Accepted}
use Rattle.meter_core.specs.Moments.{offered, second_steps, tick_steps}
use Rattle.xdlms_services.specs.Asking.{Asked, asking_at}
use Rattle.line_server.specs.Asking.{Ask}
use Rattle.line_server.specs.Answering.{Answer, Take, steps_of}
use Rattle.line_server.proofs.Doing.{offered_up-to}
use Rattle.line_server.specs.Running.{tasks_in}
use Rattle.line_server.specs.declared.line.Line.{Line}
use Rattle.line_server.specs.declared.line.Line.TheVariants.{Skipped, Input, Evaluate, At, Ticks, Unreadable}
use Rattle.line_server.specs.declared.line.Line.TheVariants.{Ask as Asks}
use Rattle.line_notices.specs.Onlooking.{Onlooker, accepted_of, is_unnoticed, said_text, steps_text, verdict_text}
use Rattle.line_notices.specs.Seen.{Seen, first_seen, noticed, or_else, seen_in, seen_of}
use Rattle.line_notices.specs.declared.seen.Seen.{Seen as SeenStep}

or_else-assoc : {A : Type 0} (x y z : Option A) → or_else (or_else x y) z ≡ or_else x (or_else y z)
or_else-assoc None y z = refl
or_else-assoc (Some v) y z = refl

or_else-none : {A : Type 0} (x : Option A) → or_else x None ≡ x
or_else-none None = refl
or_else-none (Some v) = refl

-- one step alone
pub first-one : (a : Accepted) (c : ℕ) (step : Step) → first_seen a c (step ∷ []) ≡ seen_in a c step
first-one a c step = or_else-none (seen_in a c step)

first-append : (a : Accepted) (c : ℕ) (xs ys : List Step) → first_seen a c (xs ++ ys) ≡ or_else (first_seen a c xs) (first_seen a c ys)
first-append a c [] ys = refl
first-append a c (x ∷ xs) ys = ap (or_else (seen_in a c x)) (first-append a c xs ys) ∙ sym (or_else-assoc (seen_in a c x) (first_seen a c xs) (first_seen a c ys))

-- ---- what is offered to objects

-- of the objects up to one more
up-to : (a : Accepted) (c : ℕ) (objects : List Object) (i : ℕ) (o : Object) → i < length objects → o ≡ get_or objects i o → first_seen a c (filter_map offered (take i objects)) ≡ None
    → first_seen a c (filter_map offered (take (i + 1) objects)) ≡ first_seen a c (option_to_list (offered o))
up-to a c objects i o within is none =
    ap (first_seen a c) (sym (offered_up-to objects i o within is))
    ∙ first-append a c (filter_map offered (take i objects)) (option_to_list (offered o))
    ∙ ap (λ (x : Option Seen). or_else x (first_seen a c (option_to_list (offered o)))) none

pub driven-more : (a : Accepted) (c : ℕ) (objects : List Object) (i : ℕ) (o : Object) → i < length objects → o ≡ get_or objects i o → first_seen a c (filter_map offered (take i objects)) ≡ None
    → first_seen a c (option_to_list (offered o)) ≡ None → first_seen a c (filter_map offered (take (i + 1) objects)) ≡ None
driven-more a c objects i o within is none unseen = up-to a c objects i o within is none ∙ unseen

pub driven-found : (a : Accepted) (c : ℕ) (objects : List Object) (i : ℕ) (o : Object) (seen : Seen) → i < length objects → o ≡ get_or objects i o
    → first_seen a c (filter_map offered (take i objects)) ≡ None → first_seen a c (option_to_list (offered o)) ≡ Some seen → first_seen a c (filter_map offered objects) ≡ Some seen
driven-found a c objects i o seen within is none found =
    let rest = filter_map offered (drop (i + 1) objects) in
    ap (λ (l : List Object). first_seen a c (filter_map offered l)) (sym (take-append-drop (i + 1) objects))
    ∙ ap (first_seen a c) (filter_map-append offered (take (i + 1) objects) (drop (i + 1) objects))
    ∙ first-append a c (filter_map offered (take (i + 1) objects)) rest
    ∙ ap (λ (x : Option Seen). or_else x (first_seen a c rest)) (up-to a c objects i o within is none ∙ found)

-- ---- seconds that pass

none-ticks : (a : Accepted) (c : ℕ) (plan : Plan) (n : ℕ) → first_seen a c (second_steps plan) ≡ None → first_seen a c (tick_steps plan n) ≡ None
unfolding tick_steps
none-ticks a c plan zero none = refl
none-ticks a c plan (suc n) none =
    first-append a c (second_steps plan) (tick_steps plan n) ∙ ap (λ (x : Option Seen). or_else x (first_seen a c (tick_steps plan n))) none ∙ none-ticks a c plan n none

or_else-same : {A : Type 0} (x y : Option A) → (x ≡ None → y ≡ None) → or_else x y ≡ x
or_else-same None y none = none refl
or_else-same (Some v) y none = refl

-- each second has the same steps
pub ticks-first : (a : Accepted) (c : ℕ) (plan : Plan) (n : ℕ) → 0 < n → first_seen a c (tick_steps plan n) ≡ first_seen a c (second_steps plan)
unfolding tick_steps
ticks-first a c plan zero some = absurd (omega (arith, some))
ticks-first a c plan (suc n) some =
    first-append a c (second_steps plan) (tick_steps plan n) ∙ or_else-same (first_seen a c (second_steps plan)) (first_seen a c (tick_steps plan n)) (none-ticks a c plan n)

pub no-ticks : (a : Accepted) (c : ℕ) (plan : Plan) → first_seen a c (tick_steps plan 0) ≡ None
unfolding tick_steps
no-ticks a c plan = refl

-- ---- tasks

pub taken : (steps : List Step) → steps_of (map Take steps) ≡ steps
taken [] = refl
taken (x ∷ xs) = ap (λ (l : List Step). x ∷ l) (taken xs)

-- of an APDU that asks a step, that one
pub asked-first : (a : Accepted) (c : ℕ) (ask : Ask) (given : Asked) → asking_at ask.client ask.apdu ≡ Some given → first_seen a c (steps_of (Answer ask ∷ [])) ≡ seen_in a c given.step
asked-first a c ask given is = rw is (first-one a c given.step)

pub unasked-first : (a : Accepted) (c : ℕ) (ask : Ask) → asking_at ask.client ask.apdu ≡ None → first_seen a c (steps_of (Answer ask ∷ [])) ≡ None
unasked-first a c ask is = rw is refl

-- ---- what is written

some-seen : (seen : Option SeenStep) → is_some (option_map seen_of seen) ≡ is_some seen
some-seen None = refl
some-seen (Some seen) = refl

-- what is written for a line that says something
said-steps : (o : Onlooker) (said : Line) → (said ≡ Skipped → ⊥) → said_text o said ≡ steps_text o (steps_of (tasks_in o.plan said))
said-steps o Skipped some = absurd (some refl)
said-steps o (Asks ask) some = refl
said-steps o (Input cell value) some = refl
said-steps o (Evaluate monitor) some = refl
said-steps o (At moment) some = refl
said-steps o (Ticks seconds) some = refl
said-steps o (Unreadable why) some = refl

verdict-push : (notice : Option Notice) (step : Step) (seen : Option Seen) (all : Bool) → verdict_text (is_some seen) ≡ cond all (codes "quiet\n") (codes "seen\n")
    → verdict_text (is_some (or_else (option_map (λ (n : Notice). record { step = step; notice = n }) notice) seen)) ≡ cond (cond (is_some notice) false true && all) (codes "quiet\n") (codes "seen\n")
verdict-push None step seen all is = is
verdict-push (Some n) step seen all is = refl

-- `quiet` where nothing could be noticed of any step, else `seen`
pub verdict-is : (o : Onlooker) (steps : List Step) → verdict_text (is_some (first_seen (accepted_of o) o.client steps)) ≡ steps_text o steps
verdict-is o [] = refl
verdict-is o (step ∷ steps) =
    verdict-push (noticed (accepted_of o) o.client step) step (first_seen (accepted_of o) o.client steps) (list_all (is_unnoticed o) steps) (verdict-is o steps)

-- by the first step that is seen
pub told-is : (o : Onlooker) (said : Line) (seen : Option SeenStep) → (said ≡ Skipped → ⊥) → option_map seen_of seen ≡ first_seen (accepted_of o) o.client (steps_of (tasks_in o.plan said))
    → verdict_text (is_some seen) ≡ said_text o said
told-is o said seen some is =
    ap verdict_text (sym (some-seen seen) ∙ ap (λ (x : Option Seen). is_some x) is) ∙ verdict-is o (steps_of (tasks_in o.plan said)) ∙ sym (said-steps o said some)
