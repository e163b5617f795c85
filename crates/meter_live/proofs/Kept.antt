-- Each step on the copies keeps their rule.
use Rattle.std.proofs.Common.{◌≡◌, ◌≢◌, ℕ, List, [], ◌∷◌, ◌++◌, set, refl, ap, sym, subst, ◌∙◌, ⊎_elim}
use mathlib.Core.Option.{some}
use lib.ListN.{get_elem?}
use Rattle.atomic_table.proofs.Lists.{at_set, at_snoc}
use Rattle.meter_theory.specs.Plan.{Plan, start}
use Rattle.meter_theory.specs.Replies.{run}
use Rattle.meter_theory.specs.State.{State}
use Rattle.meter_theory.specs.Steps.{Step}
use Rattle.meter_live.specs.Marks.{Mark}
use Rattle.meter_live.specs.declared.rule.Names.{Names}
use Rattle.meter_live.specs.Copies.{Agrees, Keeps, Sees, named, unknown}
use Rattle.meter_live.proofs.Fronts.{prefix_self, prefix_more}
use Rattle.meter_live.proofs.Notes.{run-append}

-- all threads agree
abbrev Each : Plan → Mark → List Names → Type 0
Each p f views = (seat : ℕ) (v : Names) → get_elem? views seat ≡ some v → Agrees p f v

nothing_known : (p : Plan) (f : Mark) → Agrees p f unknown
nothing_known p f h = absurd (cc h)

all_known : (p : Plan) (f : Mark) → Agrees p f (named p f)
all_known p f h = (refl, refl, prefix_self f.steps)

each_set : (p : Plan) (f : Mark) (views : List Names) (seat : ℕ) (w : Names) → Each p f views → Agrees p f w → Each p f (set views seat w)
each_set p f views seat w each agrees j u at =
    ⊎_elim (λ (t : (j ≡ seat) × (w ≡ u)). subst (Agrees p f) t.1 agrees)
    (λ (t : (j ≢ seat) × (get_elem? views j ≡ some u)). each j u t.1)
    (at_set views seat j w u at)

each_more : (p : Plan) (f : Mark) (views : List Names) (w : Names) → Each p f views → Agrees p f w → Each p f (views ++ w ∷ [])
each_more p f views w each agrees j u at = ⊎_elim (each j u) (λ (e : w ≡ u). subst (Agrees p f) e agrees) (at_snoc views w u j at)

pub admits : (p : Plan) (cells : State) (f : Mark) (views : List Names) → Keeps p cells f views → Keeps p cells f (views ++ unknown ∷ [])
admits p cells f views h = (h.0, each_more p f views unknown h.1 (nothing_known p f))

pub forks : (p : Plan) (cells : State) (f : Mark) (views : List Names) (seat : ℕ) (v : Names) → Keeps p cells f views → get_elem? views seat ≡ some v → Keeps p cells f (set views seat v ++ v ∷ [])
forks p cells f views seat v h at = let a = h.1 seat v at in (h.0, each_more p f (set views seat v) v (each_set p f views seat v h.1 a) a)

pub merges : (p : Plan) (cells : State) (f : Mark) (views : List Names) (seat other : ℕ) (w : Names) → Keeps p cells f views → ¬ (other ≡ seat) → get_elem? (set views seat w) other ≡ some w
    → Keeps p cells f (set (set views seat w) other unknown)
merges p cells f views seat other w h apart there =
    let a : Agrees p f w = ⊎_elim (λ (t : (other ≡ seat) × (w ≡ w)). absurd (apart t.0)) (λ (t : (other ≢ seat) × (get_elem? views other ≡ some w)). h.1 other w t.1) (at_set views seat other w w there) in
    (h.0, each_set p f (set views seat w) other unknown (each_set p f views seat w h.1 a) (nothing_known p f))

-- a reader enters, and knows the mark of the copy
pub enters : (p : Plan) (cells : State) (f : Mark) (seat : ℕ) (v : Names) (views : List Names) → Keeps p cells f views → get_elem? views seat ≡ some v
    → (w : Names) × Keeps p cells f (set views seat w) × Sees p cells f v w
enters p cells f seat v views h at = (named p f, (h.0, each_set p f views seat (named p f) h.1 (all_known p f)), (refl, h.1 seat v at, h.0))

agrees_more : (p : Plan) (f : Mark) (steps : List Step) (v : Names) → Agrees p f v → Agrees p (record { book = f.book; steps = f.steps ++ steps }) v
agrees_more p f steps v agrees known = let a = agrees known in (a.0, a.1, prefix_more v.front.steps f.steps steps a.2)

-- the writer publishes, and knows the mark of the copy
pub publishes : (p : Plan) (cells : State) (f : Mark) (steps : List Step) (p' : Plan) (cells' : State) (f' : Mark) (seat : ℕ)
    → p' ≡ p → cells' ≡ run p cells steps → f' ≡ record { book = f.book; steps = f.steps ++ steps }
    → (views : List Names) → Keeps p cells f views
    → (w : Names) × Keeps p' cells' f' (set views seat w) × (w ≡ named p' f')
publishes p cells f steps p' cells' f' seat plan_is is_run mark_is views h =
    let more : Mark = record { book = f.book; steps = f.steps ++ steps } in
    let ran : cells' ≡ run p' (start p') f'.steps = is_run ∙ ap (λ s. run p s steps) h.0 ∙ sym (run-append p (start p) f.steps steps) ∙ (λ i. run (sym plan_is i) (start (sym plan_is i)) ((sym mark_is i).steps)) in
    let each : Each p' f' views = λ j u at. subst (λ (q : Plan). Agrees q f' u) (sym plan_is) (subst (λ (m : Mark). Agrees p m u) (sym mark_is) (agrees_more p f steps u (h.1 j u at))) in (
      named p' f',
      (ran, each_set p' f' views seat (named p' f') each (all_known p' f')),
      refl,
    )
