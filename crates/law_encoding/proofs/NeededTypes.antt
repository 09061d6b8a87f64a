-- The types that a well formed module needs count at most two for each that it counts.
use Rattle.std.proofs.Common.{map, ◌≡◌, ℕ, suc, ◌+◌, ◌*◌, ◌≤◌, Bool, true, false, List, [], ◌∷◌, ◌++◌, length, refl, sym, ap, subst, arith}
use Rattle.std.specs.Prelude.{if◌then◌else◌, nat_lt, All}
use Rattle.std.specs.List.{flat_map}
use Rattle.std.proofs.lemmas.List.Elements.{All-head, All-tail}
use Rattle.typed_tree.specs.declared.shape.Formal.{Formal}
use Rattle.typed_tree.specs.declared.statement.TypedStmt.{TypedStmt}
use Rattle.typed_tree.specs.declared.typed_module.Routine.{Routine}
use Rattle.typed_tree.specs.declared.typed_module.TypedModule.{TypedModule}
use Rattle.layout_storage.specs.Frames.{formals_of}
use Rattle.def_scheme.specs.Exprs.{all_arguments, arguments_of, has_result}
use Rattle.def_scheme.specs.Functions.{link_arguments}
use Rattle.def_scheme.specs.Signatures.{Signatures, concatenation, of_step, of_routine, signatures_needed}
use Rattle.law_modules.specs.WellFormed.{AreStmts, IsBody, IsWellFormed}
use Rattle.law_encoding.specs.Sizes.{sum_of}
use Rattle.law_encoding.specs.TypedSizes.{size_body}
use Rattle.law_encoding.specs.Short.{routine_counts, counts_in}
use Rattle.law_encoding.specs.FunctionTypes.{type_counts, types_count}
use Rattle.law_encoding.proofs.Sums.{sum_append}
use Rattle.law_encoding.proofs.TypesOfCalls.{body_types}

-- ---- formals

one_formal : (b : Bool) → (if b then 2 else 1) ≤ 2
one_formal true = omega arith
one_formal false = omega arith

formals_sum : (a b n : ℕ) → a ≤ 2 → b ≤ 2 * n → a + b ≤ 2 * suc n
formals_sum a b n h l = omega (arith, h, l)

formals_few : (fs : List Formal) → all_arguments fs ≤ 2 * length fs
formals_few [] = omega arith
formals_few (f ∷ fs) = formals_sum (arguments_of f) _ (length fs) (one_formal f.is_open) (formals_few fs)

one_link : (b : Bool) → (if b then 1 else 0) ≤ 1
one_link true = omega arith
one_link false = omega arith

-- ---- procedures

joined_is : (m : TypedModule) (xs : List TypedStmt) → flat_map (of_step m) xs ≡ concatenation (map (of_step m) xs)
joined_is m [] = refl
joined_is m (x ∷ xs) = ap (λ (ss : Signatures). of_step m x ++ ss) (joined_is m xs)

body_few : (m : TypedModule) (gives : Bool) (xs : List TypedStmt) → AreStmts m gives 0 false xs
    → types_count (flat_map (of_step m) xs) ≤ 2 * size_body xs
body_few m gives xs p = subst (λ (ss : Signatures). types_count ss ≤ 2 * size_body xs) (sym (joined_is m xs))
    (body_types m gives 0 false xs p)

routine_sum : (l a n b s : ℕ) → l ≤ 1 → a ≤ 2 * n → b ≤ 2 * s → 1 + (l + a) + b ≤ 2 * (1 + n + s)
routine_sum l a n b s h k q = omega (arith, h, k, q)

routine_few : (m : TypedModule) (r : Routine) → IsBody m r → types_count (of_routine m r) ≤ 2 * routine_counts m.types r
routine_few m r p =
    routine_sum (link_arguments r) (all_arguments (formals_of m.types r.heading))
    (length (formals_of m.types r.heading)) _ (size_body r.body) (one_link (nat_lt 1 r.level))
    (formals_few (formals_of m.types r.heading))
    (body_few m (has_result m.types r.heading) r.body p.body)

more_sum : (a b c n k : ℕ) → a ≡ b + c → b ≤ 2 * n → c ≤ 2 * k → a ≤ 2 * (n + k)
more_sum a b c n k e h l = omega (arith, e, h, l)

routines_few : (m : TypedModule) (rs : List Routine) → All (IsBody m) rs
    → types_count (flat_map (of_routine m) rs) ≤ 2 * sum_of (routine_counts m.types) rs
routines_few m [] p = omega arith
routines_few m (r ∷ rs) p =
    more_sum _ (types_count (of_routine m r)) _ (routine_counts m.types r) _
    (sum_append type_counts (of_routine m r) (flat_map (of_routine m) rs))
    (routine_few m r (All-head (IsBody m) r rs p)) (routines_few m rs (All-tail (IsBody m) r rs p))

whole_sum : (a b c d e n k j : ℕ) → a ≡ b + c → c ≡ d + e → b ≤ 2 * n → d ≤ 2 * k → e ≤ 2 * j → a ≤ 2 * (n + k + j)
whole_sum a b c d e n k j x y h l q = omega (arith, x, y, h, l, q)

pub needed_few : (m : TypedModule) → IsWellFormed m → types_count (signatures_needed m) ≤ 2 * counts_in m
needed_few m p =
    let first = flat_map (of_routine m) m.procedures in
    let second = flat_map (of_routine m) m.locals in
    let third = flat_map (of_step m) m.body in
    whole_sum _ (types_count first) _ (types_count second) (types_count third) _ _ (size_body m.body)
    (sum_append type_counts first (second ++ third)) (sum_append type_counts second third)
    (routines_few m m.procedures p.procedures) (routines_few m m.locals p.locals) (body_few m false m.body p.body)
