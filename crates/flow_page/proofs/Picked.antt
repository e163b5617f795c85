-- The ways that are told are of clients of the plan to rows.
use Rattle.std.proofs.Common.{◌≡◌, ℕ, suc, ◌<◌, Bool, true, false, cond, List, [], ◌∷◌, flat_map, get_or, length, Option, Some, None, option_map, map, take, sym, subst, arith, Vec, Global}
use Rattle.std.proofs.lemmas.List.{length-map}
use Rattle.std.specs.List.{All, range_with_len}
use Rattle.std.specs.Option.{option_to_list}
use Rattle.std.proofs.lemmas.List.Elements.{All-append, All-cons, All-nil, All-take}
use Rattle.meter_theory.specs.declared.flow.Reach.{Reach}
use Rattle.meter_theory.specs.declared.flow.Reach.TheVariants.{Influence, Learn}
use Rattle.flow_map.proofs.Ranges.{range-below}
use Rattle.flow_map.specs.declared.request.GrantedRequest.{GrantedRequest}
use Rattle.flow_page.specs.Marks.{Told}
use Rattle.flow_page.specs.WayTables.{ArePicks, IsPick, client_picks, pick_of, picks, reach_picks, row_picks}
use Rattle.flow_page.specs.declared.view.picks.Pick.{Pick}
use Rattle.flow_page.specs.declared.view.picks.Sort.{Sort}

all-flat : {A B : Type 0} (P : B → Type 0) (f : A → List B) (xs : List A) → All (λ x. All P (f x)) xs → All P (flat_map f xs)
all-flat P f [] h = All-nil P
all-flat P f (x ∷ xs) h = All-append P (f x) (flat_map f xs) (h 0 x (omega arith)) (all-flat P f xs (λ k d less. h (suc k) d (omega (arith, less))))

module _ (t : Told) (sort : Sort) (rows : List (List ℕ)) where
  one-picked : (reach : Reach) (c r : ℕ) → c < length t.plan.clients → r < length rows → (b : Bool) (request : Option GrantedRequest) →
      ArePicks (length t.plan.clients) (length rows) (option_to_list (cond b (option_map (pick_of reach c r) request) None))
  one-picked reach c r low less false request = All-nil (IsPick (length t.plan.clients) (length rows))
  one-picked reach c r low less true None = All-nil (IsPick (length t.plan.clients) (length rows))
  one-picked reach c r low less true (Some request) =
      All-cons (IsPick (length t.plan.clients) (length rows)) (pick_of reach c r request) [] (record { client_within = low; row_within = less }) (All-nil (IsPick (length t.plan.clients) (length rows)))

  reach-picked : (reach : Reach) (c : ℕ) → c < length t.plan.clients → ArePicks (length t.plan.clients) (length rows) (reach_picks t sort rows reach c)
  reach-picked reach c low =
      all-flat (IsPick (length t.plan.clients) (length rows)) (row_picks t sort rows reach c) (range_with_len 0 (length rows))
      (λ k d less. one-picked reach c (get_or (range_with_len 0 (length rows)) k d) low (range-below (length rows) k d less) _ _)

  pub are-picks : ArePicks (length t.plan.clients) (length rows) (picks t sort rows)
  are-picks =
      let P = IsPick (length t.plan.clients) (length rows) in
      all-flat P (client_picks t sort rows) (range_with_len 0 (length t.plan.clients))
      (λ k d less.
      let c = get_or (range_with_len 0 (length t.plan.clients)) k d in
      let low = range-below (length t.plan.clients) k d less in
      All-append P (reach_picks t sort rows Influence c) (reach_picks t sort rows Learn c) (reach-picked Influence c low) (reach-picked Learn c low))

-- so are the first of them
pub some-picks : (t : Told) (sort : Sort) (rows : List (Vec ℕ Global)) (n : ℕ) (some : List Pick) → some ≡ take n (picks t sort (map (λ row. row.items) rows)) →
    ArePicks (length t.plan.clients) (length rows) some
some-picks t sort rows n some first =
    let f = λ (row : Vec ℕ Global). row.items in
    let clients = length t.plan.clients in
    let every = subst (λ k. ArePicks clients k (picks t sort (map f rows))) (length-map rows f) (are-picks t sort (map f rows)) in
    subst (ArePicks clients (length rows)) (sym first) (All-take (IsPick clients (length rows)) n (picks t sort (map f rows)) every)
