-- What a client asks.
use Rattle.std.specs.Prelude.{ℕ, List}

-- an APDU of a client, which is named by its place in the plan
pub record Ask : Type 0 where
  pub client : ℕ
  pub apdu : List ℕ
