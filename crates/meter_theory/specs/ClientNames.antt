-- The names that clients may have. Texts are lists of bytes.
use Rattle.std.specs.Prelude.{ℕ, ◌==◌, nat_le, Bool, not, ◌&&◌, ◌||◌, List, length, codes}
use Rattle.std.specs.List.{list_all}
use Rattle.std.specs.Str.{bytes_eq}
use Rattle.meter_theory.specs.declared.limits.TheConstants as limits

-- a to z, 0 to 9 and _ (own profile)
abbrev pub is_name_byte : ℕ → Bool
is_name_byte b = (nat_le 97 b && nat_le b 122) || ((nat_le 48 b && nat_le b 57) || (b == 95))

-- the words that begin a step of the meter itself (own profile)
abbrev pub is_step_word : List ℕ → Bool
is_step_word text = bytes_eq text (codes "in") || (bytes_eq text (codes "at") || bytes_eq text (codes "eval"))

-- a client's name: few characters, and at least one (own profile)
abbrev pub is_client_name : List ℕ → Bool
is_client_name text = nat_le 1 (length text) && (nat_le (length text) limits.NAME_CHARACTERS && (list_all is_name_byte text && not (is_step_word text)))

-- a client may have the name in a plan of this version: since version 2 a line that begins with `tick` is no client's (own profile)
abbrev pub may_be_named : ℕ → List ℕ → Bool
may_be_named version text = is_client_name text && not ((version == 2) && bytes_eq text (codes "tick"))
