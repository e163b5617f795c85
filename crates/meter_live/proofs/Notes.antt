-- Notes to the copies, and beginnings of the history.
use Rattle.std.proofs.Common.{Ok, subst, ◌≡◌, List, [], ◌∷◌, ◌++◌, fold, refl, ap, sym, ◌∙◌}
use Rattle.std.specs.Prelude.{Option, None, Some, MatchResult}
use Rattle.std.specs.declared.result.Result.{Result}
use Rattle.std.proofs.lemmas.List.{append-nil}
use Rattle.meter_theory.specs.Plan.{Plan}
use Rattle.meter_theory.specs.Replies.{run}
use Rattle.meter_theory.specs.State.{State}
use Rattle.meter_theory.specs.Steps.{Step, next}
use Rattle.meter_live.specs.Marks.{Mark}
use Rattle.meter_live.specs.Copies.{absorbed, last_mark}
use Rattle.meter_live.specs.Outgoing.{steps_in, list_of}
use Rattle.meter_live.specs.declared.shown.Note.{Note}
use Rattle.meter_live.specs.declared.shown.Note.TheVariants.{Made, UpTo}

pub run-append : (p : Plan) (s : State) (xs ys : List Step) → run p s (xs ++ ys) ≡ run p (run p s xs) ys
run-append p s [] ys = refl
run-append p s (x ∷ xs) ys = run-append p (next p s x) xs ys

pub steps_in-append : (xs ys : List Note) → steps_in (xs ++ ys) ≡ steps_in xs ++ steps_in ys
steps_in-append [] ys = refl
steps_in-append (Made step ∷ xs) ys = ap (λ r. step ∷ r) (steps_in-append xs ys)
steps_in-append (UpTo mark ∷ xs) ys = steps_in-append xs ys

pub last_mark-push : (f : Mark) (xs : List Note) (mark : Mark) → last_mark f (xs ++ UpTo mark ∷ []) ≡ mark
last_mark-push f [] mark = refl
last_mark-push f (Made step ∷ xs) mark = last_mark-push f xs mark
last_mark-push f (UpTo m ∷ xs) mark = last_mark-push m xs mark

-- what is absorbed is the run of the steps, and the last mark
pub fold_absorbed : (p : Plan) (s : State) (f : Mark) (notes : List Note) → fold absorbed (p, s, f) notes ≡ (p, run p s (steps_in notes), last_mark f notes)
fold_absorbed p s f [] = refl
fold_absorbed p s f (Made step ∷ notes) = fold_absorbed p (next p s step) f notes
fold_absorbed p s f (UpTo mark ∷ notes) = fold_absorbed p s mark notes

-- a step is sent
pub sent : (old new : List Note) (step : Step) → new ≡ old ++ Made step ∷ [] → steps_in new ≡ steps_in old ++ step ∷ []
sent old new step is = ap steps_in is ∙ steps_in-append old (Made step ∷ [])

-- the late step is handed over
pub handed : (old new : List Step) (step : Step) (late late' : Option Step) → new ≡ old ++ step ∷ [] → late ≡ Some step → late' ≡ None → new ++ list_of late' ≡ old ++ list_of late
handed old new step late late' is was none = ap (λ l. new ++ list_of l) none ∙ append-nil new ∙ is ∙ ap (λ l. old ++ list_of l) (sym was)

-- a mark adds no step
pub marked : (old new : List Note) (mark : Mark) → new ≡ old ++ UpTo mark ∷ [] → steps_in new ≡ steps_in old
marked old new mark is = ap steps_in is ∙ steps_in-append old (UpTo mark ∷ []) ∙ append-nil (steps_in old)

pub last_marked : (f : Mark) (old new : List Note) (mark : Mark) → new ≡ old ++ UpTo mark ∷ [] → last_mark f new ≡ mark
last_marked f old new mark is = ap (last_mark f) is ∙ last_mark-push f old mark

-- what holds where a result is Ok
pub when_ok : {A E : Type 0} (P : A → Type 0) (Q : E → Type 0) (r : Result A E) (x : A) → r ≡ Ok x → MatchResult r P Q → P x
when_ok P Q r x is h = subst (λ (s : Result _ _). MatchResult s P Q) is h
