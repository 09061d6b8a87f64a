-- What is known of types.
use Rattle.std.proofs.Common.{map, ◌≡◌, ℕ, Bool, true, false, cond, List, Option, Some, None, refl, sym, ap, ◌∙◌}
use Rattle.std.specs.Prelude.{nat_eq, ◌==◌, slice_get, ◌&&◌}
use Rattle.std.specs.Option.{option_map}
use Rattle.std.specs.Map.{lookup}
use Rattle.std.proofs.lemmas.Option.{slice_get-map}
use Rattle.typed_tree.specs.declared.types.Home.{Home}
use Rattle.typed_tree.specs.declared.types.Home.TheVariants.{Predeclared, Module}
use Rattle.typed_tree.specs.declared.types.TypeNo.{TypeNo}
use Rattle.typed_tree.specs.declared.shape.Scalar.{Scalar as Range}
use Rattle.typed_tree.specs.declared.shape.Shape.{Shape}
use Rattle.typed_tree.specs.declared.shape.Shape.TheVariants as shape
use Rattle.typed_tree.specs.declared.shape.Made.{Made}
use Rattle.typed_tree.specs.declared.known_types.Types.{Types}
use Rattle.typed_tree.specs.Types.{are_same, is_one_home}
use Rattle.typed_tree.specs.Known.{in_list, made_in, made_from, made_at, predeclared_scalar, scalar_shape, scalar_made, scalar_from, scalar_at}
use Rattle.layout_storage.specs.Frames.{formals_in, formals_made, formals_of}
use Rattle.def_scheme.specs.Exprs.{index_shape, index_made, index_of, is_there, result_in, result_made, has_result}
use Rattle.def_exchange.specs.Moved.{Exchange, moved_home, moved_type, moved_scalar, moved_formal, moved_shape, moved_made, moved_types}
use Rattle.law_exchange_code.proofs.Lists.{two_paths}
use Rattle.law_exchange_code.proofs.Numbers.{same_number, lookup_moved}

module _ (x : Exchange) where
  -- ---- tests

  same_home : (g h : Home) → is_one_home (moved_home x g) (moved_home x h) ≡ is_one_home g h
  same_home Predeclared Predeclared = refl
  same_home Predeclared (Module n) = refl
  same_home (Module m) Predeclared = refl
  same_home (Module m) (Module n) = same_number x m n

  pub same_type : (t u : TypeNo) → are_same (moved_type x t) (moved_type x u) ≡ are_same t u
  same_type t u = ap (λ b. b && t.number == u.number) (same_home t.home u.home)

  -- ---- how a type is made

  list_moved : (n : ℕ) (o : Option (List Made))
      → in_list n (option_map (map (moved_made x)) o) ≡ option_map (moved_made x) (in_list n o)
  list_moved n None = refl
  list_moved n (Some ms) = slice_get-map (moved_made x) ms n

  made_case : (b : Bool) (o p : Option Made)
      → cond b (option_map (moved_made x) o) (option_map (moved_made x) p) ≡ option_map (moved_made x) (cond b o p)
  made_case true o p = refl
  made_case false o p = refl

  pub made_in_moved : (ts : Types) (h n : ℕ)
      → made_in (moved_types x ts) (x.there h) n ≡ option_map (moved_made x) (made_in ts h n)
  made_in_moved ts h n =
      ap (λ b. cond b (slice_get (map (moved_made x) ts.own) n)
      (in_list n (lookup (nat_eq (x.there h)) (moved_types x ts).others)))
      (same_number x h ts.home)
      ∙ two_paths (λ o p. cond (h == ts.home) o p) (slice_get-map (moved_made x) ts.own n)
      (ap (in_list n) (lookup_moved x (map (moved_made x)) h ts.others)
      ∙ list_moved n (lookup (nat_eq h) ts.others))
      ∙ made_case (h == ts.home) (slice_get ts.own n) (in_list n (lookup (nat_eq h) ts.others))

  made_from_moved : (ts : Types) (h : Home) (n : ℕ)
      → made_from (moved_types x ts) (moved_home x h) n ≡ option_map (moved_made x) (made_from ts h n)
  made_from_moved ts Predeclared n = refl
  made_from_moved ts (Module h) n = made_in_moved ts h n

  pub made_at_moved : (ts : Types) (t : TypeNo)
      → made_at (moved_types x ts) (moved_type x t) ≡ option_map (moved_made x) (made_at ts t)
  made_at_moved ts t = made_from_moved ts t.home t.number

  -- ---- scalars

  predeclared_case : (a b c d : Bool) (i k l m : Range) → moved_scalar x i ≡ i → moved_scalar x k ≡ k
      → moved_scalar x l ≡ l
      → moved_scalar x m ≡ m
      → cond a (Some i) (cond b (Some k) (cond c (Some l) (cond d (Some m) None)))
      ≡ option_map (moved_scalar x) (cond a (Some i) (cond b (Some k) (cond c (Some l) (cond d (Some m) None))))
  predeclared_case true b c d i k l m p q r s = ap Some (sym p)
  predeclared_case false true c d i k l m p q r s = ap Some (sym q)
  predeclared_case false false true d i k l m p q r s = ap Some (sym r)
  predeclared_case false false false true i k l m p q r s = ap Some (sym s)
  predeclared_case false false false false i k l m p q r s = refl

  pub predeclared_moved : (n : ℕ) → predeclared_scalar n ≡ option_map (moved_scalar x) (predeclared_scalar n)
  predeclared_moved n = predeclared_case (n == 0) (n == 1) (n == 2) (n == 3) _ _ _ _ refl refl refl refl

  scalar_shape_moved : (s : Shape) → scalar_shape (moved_shape x s) ≡ option_map (moved_scalar x) (scalar_shape s)
  scalar_shape_moved (shape.Scalar s) = refl
  scalar_shape_moved shape.Set = refl
  scalar_shape_moved (shape.Array i e) = refl
  scalar_shape_moved (shape.Record fs) = refl
  scalar_shape_moved (shape.Procedure p) = refl
  scalar_shape_moved (shape.Open e) = refl

  scalar_made_moved : (o : Option Made) → scalar_made (option_map (moved_made x) o)
      ≡ option_map (moved_scalar x) (scalar_made o)
  scalar_made_moved None = refl
  scalar_made_moved (Some m) = scalar_shape_moved m.shape

  scalar_from_moved : (ts : Types) (h : Home) (n : ℕ)
      → scalar_from (moved_types x ts) (moved_home x h) n ≡ option_map (moved_scalar x) (scalar_from ts h n)
  scalar_from_moved ts Predeclared n = predeclared_moved n
  scalar_from_moved ts (Module h) n = ap scalar_made (made_in_moved ts h n) ∙ scalar_made_moved (made_in ts h n)

  pub scalar_at_moved : (ts : Types) (t : TypeNo)
      → scalar_at (moved_types x ts) (moved_type x t) ≡ option_map (moved_scalar x) (scalar_at ts t)
  scalar_at_moved ts t = scalar_from_moved ts t.home t.number

  -- ---- procedure types

  formals_in_moved : (s : Shape) → formals_in (moved_shape x s) ≡ map (moved_formal x) (formals_in s)
  formals_in_moved (shape.Scalar s) = refl
  formals_in_moved shape.Set = refl
  formals_in_moved (shape.Array i e) = refl
  formals_in_moved (shape.Record fs) = refl
  formals_in_moved (shape.Procedure p) = refl
  formals_in_moved (shape.Open e) = refl

  formals_made_moved : (o : Option Made) → formals_made (option_map (moved_made x) o)
      ≡ map (moved_formal x) (formals_made o)
  formals_made_moved None = refl
  formals_made_moved (Some m) = formals_in_moved m.shape

  pub formals_moved : (ts : Types) (h : TypeNo)
      → formals_of (moved_types x ts) (moved_type x h) ≡ map (moved_formal x) (formals_of ts h)
  formals_moved ts h = ap formals_made (made_at_moved ts h) ∙ formals_made_moved (made_at ts h)

  there_kept : (o : Option TypeNo) → is_there (option_map (moved_type x) o) ≡ is_there o
  there_kept None = refl
  there_kept (Some t) = refl

  result_in_kept : (s : Shape) → result_in (moved_shape x s) ≡ result_in s
  result_in_kept (shape.Scalar s) = refl
  result_in_kept shape.Set = refl
  result_in_kept (shape.Array i e) = refl
  result_in_kept (shape.Record fs) = refl
  result_in_kept (shape.Procedure p) = there_kept p.result
  result_in_kept (shape.Open e) = refl

  result_made_kept : (o : Option Made) → result_made (option_map (moved_made x) o) ≡ result_made o
  result_made_kept None = refl
  result_made_kept (Some m) = result_in_kept m.shape

  pub result_kept : (ts : Types) (h : TypeNo) → has_result (moved_types x ts) (moved_type x h) ≡ has_result ts h
  result_kept ts h = ap result_made (made_at_moved ts h) ∙ result_made_kept (made_at ts h)

  -- ---- arrays

  index_shape_moved : (ts : Types) (s : Shape)
      → index_shape (moved_types x ts) (moved_shape x s) ≡ option_map (moved_scalar x) (index_shape ts s)
  index_shape_moved ts (shape.Scalar s) = refl
  index_shape_moved ts shape.Set = refl
  index_shape_moved ts (shape.Array i e) = scalar_at_moved ts i
  index_shape_moved ts (shape.Record fs) = refl
  index_shape_moved ts (shape.Procedure p) = refl
  index_shape_moved ts (shape.Open e) = refl

  index_made_moved : (ts : Types) (o : Option Made)
      → index_made (moved_types x ts) (option_map (moved_made x) o) ≡ option_map (moved_scalar x) (index_made ts o)
  index_made_moved ts None = refl
  index_made_moved ts (Some m) = index_shape_moved ts m.shape

  pub index_moved : (ts : Types) (t : TypeNo)
      → index_of (moved_types x ts) (moved_type x t) ≡ option_map (moved_scalar x) (index_of ts t)
  index_moved ts t = ap (index_made (moved_types x ts)) (made_at_moved ts t) ∙ index_made_moved ts (made_at ts t)
