-- Known of typed_tree, with other numbers of modules.
use Rattle.def_exchange.specs.Moved.{moved_home, moved_made, moved_scalar, moved_shape, moved_type, moved_types, Exchange}
use Rattle.std.proofs.Common.{◌≡◌, refl, List, None, Option, Some, map, nat_eq, option_map, sym, ℕ, ◌∷◌, []}
use Rattle.std.specs.Map.{lookup}
use Rattle.typed_tree.specs.Known.{is_result, is_result_made, scalar_shape, made_from, made_in, scalar_made, cells_at, made_at, is_result_shape, scalar_at, cells_made, scalar_from, is_result_from, in_list, predeclared_scalar}
use Rattle.typed_tree.specs.declared.known_types.Types.{Types}
use Rattle.typed_tree.specs.declared.shape.Made.{Made}
use Rattle.typed_tree.specs.declared.shape.Shape.{Shape}
use Rattle.typed_tree.specs.declared.types.Home.{Home}
use Rattle.typed_tree.specs.declared.types.Home.TheVariants.{Predeclared, Module}
use Rattle.typed_tree.specs.declared.types.TypeNo.{TypeNo}
use Rattle.typed_tree.specs.declared.shape.Shape.TheVariants as shape
use Rattle.law_exchange_types.proofs.Basics.{same_number, cond_some}
use Rattle.std.proofs.lemmas.Option.{slice_get-map}

pub in_list_moves : (x : Exchange) (n : ℕ) (ms : Option (List Made))
    → in_list n (option_map (map (moved_made x)) ms) ≡ option_map (moved_made x) (in_list n ms)
in_list_moves x n None = refl
in_list_moves x n (Some ms) = simp (slice_get-map)

pub lookup_moves : (x : Exchange) (n : ℕ) (os : List (ℕ × List Made))
    → lookup (nat_eq (x.there n)) (map (λ o. (x.there o.0, map (moved_made x) o.1)) os)
    ≡ option_map (map (moved_made x)) (lookup (nat_eq n) os)
lookup_moves x n [] = refl
lookup_moves x n (o ∷ os) = simp (same_number, lookup_moves x n os, cond_some)

pub made_in_moves : (x : Exchange) (ts : Types) (h n : ℕ)
    → made_in (moved_types x ts) (x.there h) n ≡ option_map (moved_made x) (made_in ts h n)
made_in_moves x ts h n = simp (same_number, lookup_moves, in_list_moves, slice_get-map, cond_some)

pub made_from_moves : (x : Exchange) (ts : Types) (h : Home) (n : ℕ)
    → made_from (moved_types x ts) (moved_home x h) n ≡ option_map (moved_made x) (made_from ts h n)
made_from_moves x ts Predeclared n = refl
made_from_moves x ts (Module h) n = made_in_moves x ts h n

pub made_at_moves : (z : Exchange) (types : Types) (t : TypeNo)
    → made_at (moved_types z types) (moved_type z t) ≡ option_map (moved_made z) (made_at types t)
made_at_moves z types t = made_from_moves z types t.home t.number

pub predeclared_scalar_moves : (x : Exchange) (n : ℕ)
    → option_map (moved_scalar x) (predeclared_scalar n) ≡ predeclared_scalar n
predeclared_scalar_moves x n = simp (cond_some)

pub scalar_shape_moves : (z : Exchange) (a0 : Shape)
    → scalar_shape (moved_shape z a0) ≡ option_map (moved_scalar z) (scalar_shape a0)
scalar_shape_moves z (shape.Scalar s) = refl
scalar_shape_moves z shape.Set = refl
scalar_shape_moves z (shape.Array i e) = refl
scalar_shape_moves z (shape.Record fs) = refl
scalar_shape_moves z (shape.Procedure p) = refl
scalar_shape_moves z (shape.Open e) = refl

pub scalar_made_moves : (z : Exchange) (a0 : Option Made)
    → scalar_made (option_map (moved_made z) a0) ≡ option_map (moved_scalar z) (scalar_made a0)
scalar_made_moves z None = refl
scalar_made_moves z (Some m) = scalar_shape_moves z m.shape

pub scalar_from_moves : (x : Exchange) (ts : Types) (h : Home) (n : ℕ)
    → scalar_from (moved_types x ts) (moved_home x h) n ≡ option_map (moved_scalar x) (scalar_from ts h n)
scalar_from_moves x ts Predeclared n = sym (predeclared_scalar_moves x n)
scalar_from_moves x ts (Module h) n = simp (made_in_moves, scalar_made_moves)

pub scalar_at_moves : (z : Exchange) (types : Types) (t : TypeNo)
    → scalar_at (moved_types z types) (moved_type z t) ≡ option_map (moved_scalar z) (scalar_at types t)
scalar_at_moves z types t = scalar_from_moves z types t.home t.number

pub cells_made_moves : (z : Exchange) (a0 : Option Made)
    → cells_made (option_map (moved_made z) a0) ≡ cells_made a0
cells_made_moves z None = refl
cells_made_moves z (Some m) = refl

pub cells_at_moves : (z : Exchange) (types : Types) (t : TypeNo)
    → cells_at (moved_types z types) (moved_type z t) ≡ cells_at types t
cells_at_moves z types t = simp (cells_made_moves, made_at_moves)

pub is_result_shape_moves : (z : Exchange) (a0 : Shape)
    → is_result_shape (moved_shape z a0) ≡ is_result_shape a0
is_result_shape_moves z (shape.Scalar s) = refl
is_result_shape_moves z shape.Set = refl
is_result_shape_moves z (shape.Array i e) = refl
is_result_shape_moves z (shape.Record fs) = refl
is_result_shape_moves z (shape.Procedure p) = refl
is_result_shape_moves z (shape.Open e) = refl

pub is_result_made_moves : (z : Exchange) (a0 : Option Made)
    → is_result_made (option_map (moved_made z) a0) ≡ is_result_made a0
is_result_made_moves z None = refl
is_result_made_moves z (Some m) = is_result_shape_moves z m.shape

pub is_result_from_moves : (x : Exchange) (ts : Types) (h : Home) (n : ℕ)
    → is_result_from (moved_types x ts) (moved_home x h) n ≡ is_result_from ts h n
is_result_from_moves x ts Predeclared n = refl
is_result_from_moves x ts (Module h) n = simp (made_in_moves, is_result_made_moves)

pub is_result_moves : (z : Exchange) (types : Types) (t : TypeNo)
    → is_result (moved_types z types) (moved_type z t) ≡ is_result types t
is_result_moves z types t = is_result_from_moves z types t.home t.number
