-- The keys of a table, as its map has them and as its members have them.
use Rattle.std.proofs.Common.{◌≡◌, ◌∷◌, [], ◌||◌, ℕ, List, String, Global, Bor, map, string_bytes, refl, ap}
use Rattle.std.specs.List.{list_any}
use Rattle.std.specs.Str.{bytes_eq}
use Rattle.toml.specs.View.{members_view}
use Rattle.toml.specs.declared.value.Value.{Value}
use Rattle.config_text.specs.Keys.{member_keys, is_among}

pub member_keys-view : (es : List (String Global × Value)) → member_keys (members_view es) ≡ map (λ k. string_bytes k) (map (λ e. e.0) es)
member_keys-view [] = refl
member_keys-view (e ∷ es) = ap (λ ks. string_bytes e.0 ∷ ks) (member_keys-view es)

pub is_among_map : (key : List ℕ) (known : List (Bor (List ℕ))) → is_among key (map (λ k. k.now) known) ≡ list_any (λ k. bytes_eq k.now key) known
is_among_map key [] = refl
is_among_map key (k ∷ known) = ap (λ b. bytes_eq k.now key || b) (is_among_map key known)
