-- The bodies of all procedures weigh no more than the declarations that they stand in allow, by induction over blocks.
-- None
-- goes further outwards than its procedure stands deep.
use Rattle.std.proofs.Common.{map, ◌≡◌, ℕ, zero, suc, ◌+◌, ◌≤◌, Bool, true, false, List, [], ◌∷◌, ◌++◌, length, Option}
use Rattle.std.proofs.Common.{Some, None, Result, refl, sym, ap, subst, ◌∙◌, arith}
use Rattle.std.specs.Prelude.{cond, slice_set, ◌==◌, ◌-◌}
use Rattle.std.specs.List.{fold}
use Rattle.m2_tree.specs.declared.name.Ident.{Ident}
use Rattle.m2_tree.specs.declared.stmt.Stmt.{Stmt}
use Rattle.m2_tree.specs.declared.decl.Heading.{Heading}
use Rattle.m2_tree.specs.declared.decl.Decl.{Decl, Decl-F, out-Decl, roll-Decl, out-roll-Decl, map-Decl, fold_out-Decl}
use Rattle.m2_tree.specs.declared.decl.Decl.{ind-Decl}
use Rattle.m2_tree.specs.declared.decl.Decl.TheOpen as layer
use Rattle.m2_tree.specs.declared.decl.Block.{Block, Block-F, out-Block, roll-Block, out-roll-Block, map-Block}
use Rattle.m2_tree.specs.declared.decl.Block.{fold_out-Block}
use Rattle.m2_tree.specs.declared.decl.Module.{Module}
use Rattle.m2_tree.specs.declared.decl.Contents.{Contents}
use Rattle.m2_tree.specs.declared.decl.Contents.TheVariants as contents
use Rattle.typed_tree.specs.declared.types.TypeNo.{TypeNo}
use Rattle.typed_tree.specs.declared.statement.TypedStmt.{TypedStmt}
use Rattle.typed_tree.specs.declared.table.Table.{Table}
use Rattle.typed_tree.specs.declared.typed_module.Routine.{Routine}
use Rattle.typed_tree.specs.declared.typed_module.TypedModule.{TypedModule}
use Rattle.typed_tree.specs.declared.typed_module.Which.{Which}
use Rattle.typed_tree.specs.declared.typed_module.Which.TheVariants as which
use Rattle.check_scope.specs.declared.scope.Scope.{Scope}
use Rattle.check_scope.specs.Elaborated.{Gathers}
use Rattle.typed_tree.specs.Types.{integer}
use Rattle.check_block.specs.Declarations.{all_declared}
use Rattle.check_block.specs.Nesting.{procedure_ends}
use Rattle.check_body.specs.declared.routine.Bodies.{Bodies}
use Rattle.check_body.specs.declared.routine.Numbered.{Numbered}
use Rattle.check_body.specs.Routines.{empty_routine, begun_at, put_routine, routine, typed_module}
use Rattle.check_body.specs.declared.procedure.Walk.{Walk}
use Rattle.check_body.specs.Elaborating.{Elaborates, statements_of}
use Rattle.check_body.specs.Inside.{which_of, begun_procedure, with_routine}
use Rattle.check_body.specs.Bodies.{Steps, Checks, ChecksBlock, marked_by, declared_by, again_by, checked_by, begun_from}
use Rattle.check_body.specs.Bodies.{with_body, with_bodies, procedure_checked, steps_layer, block_layer, steps}
use Rattle.check_body.specs.Bodies.{checks_block, checks_decl, bodies_checked}
use Rattle.check_body.specs.Checked.{begun_module, walk_body, of_walk, of_implementation, of_contents, body_module}
use Rattle.law_encoding.specs.Sizes.{sum_of, size_stmts_if, size_decl, size_block, size_contents, size_module}
use Rattle.law_encoding.specs.Sizes as sizes
use Rattle.law_encoding.specs.Nesting.{deepest, depth_stmts_if, depth_decl, depth_block, depth_contents, depth_module}
use Rattle.law_encoding.specs.Nesting as nesting
use Rattle.law_encoding.specs.TypedSizes.{size_body, size_bodies}
use Rattle.law_encoding.specs.TypedNesting.{depth_body, depth_bodies}
use Rattle.law_encoding.specs.Outward.{outward_body}
use Rattle.law_encoding.specs.Short.{beyond_routines}
use Rattle.law_encoding.specs.Counted.{AtMost, fine, broken}
use Rattle.law_encoding.proofs.Sums.{le_of, le_trans}
use Rattle.law_encoding.proofs.Deepest.{deepest_set}
use Rattle.law_encoding.proofs.Variants as sized
use Rattle.law_encoding.proofs.DeepTrees as deep
use Rattle.law_encoding.proofs.Ways.{Way, by_size, by_depth, by_distance, ◌⊕⟨◌⟩◌, all_of, total_of}
use Rattle.law_encoding.proofs.WaySums.{none_of, all_pushed, no_more, sum_again, none_left, all_again, total_all}
use Rattle.law_encoding.proofs.WaySums.{both_most}
use Rattle.law_encoding.proofs.Results.{then_most, at_more, any_most}

-- ---- what blocks weigh

-- a body in a procedure that stands so deep: how much further outwards it goes counts alone
abbrev pub body_at : Way → (level : ℕ) → List TypedStmt → ℕ
body_at by_size level xs = size_body xs
body_at by_depth level xs = depth_body xs
body_at (by_distance far) level xs = outward_body xs - level

abbrev pub weight_routine : Way → Routine → ℕ
weight_routine w r = body_at w r.level r.body

abbrev pub weight_bodies : Way → TypedModule → ℕ
weight_bodies by_size = size_bodies
weight_bodies by_depth = depth_bodies
weight_bodies (by_distance far) = beyond_routines

abbrev pub bound_body : Way → Option (List Stmt) → ℕ
bound_body by_size = size_stmts_if
bound_body by_depth = depth_stmts_if
bound_body (by_distance far) = λ o. 0

abbrev pub bound_decl : Way → Decl → ℕ
bound_decl by_size = size_decl
bound_decl by_depth = depth_decl
bound_decl (by_distance far) = λ d. 0

abbrev pub bound_block : Way → Block → ℕ
bound_block by_size = size_block
bound_block by_depth = depth_block
bound_block (by_distance far) = λ b. 0

abbrev pub bound_contents : Way → Contents → ℕ
bound_contents by_size = size_contents
bound_contents by_depth = depth_contents
bound_contents (by_distance far) = λ c. 0

abbrev pub bound_module : Way → Module → ℕ
bound_module by_size = size_module
bound_module by_depth = depth_module
bound_module (by_distance far) = λ m. 0

abbrev decl_form : Way → Decl-F Decl Block → ℕ
decl_form by_size y = sizes.decl_layer (sized.sizes_decl y)
decl_form by_depth y = nesting.decl_layer (deep.depths_decl y)
decl_form (by_distance far) y = 0

abbrev block_form : Way → Block-F Decl Block → ℕ
block_form by_size y = sizes.block_layer (sized.sizes_block y)
block_form by_depth y = nesting.block_layer (deep.depths_block y)
block_form (by_distance far) y = 0

decl_opened : (w : Way) (d : Decl) (y : Decl-F Decl Block) → out-Decl d ≡ y → bound_decl w d ≡ decl_form w y
decl_opened by_size d y h = sized.at_decl d y h
decl_opened by_depth d y h = deep.at_decl d y h
decl_opened (by_distance far) d y h = refl

block_opened : (w : Way) (b : Block) (y : Block-F Decl Block) → out-Block b ≡ y → bound_block w b ≡ block_form w y
block_opened by_size b y h = sized.at_block b y h
block_opened by_depth b y h = deep.at_block b y h
block_opened (by_distance far) b y h = refl

no_body : (w : Way) (level : ℕ) → body_at w level [] ≡ 0
no_body by_size level = omega arith
no_body by_depth level = omega arith
no_body (by_distance far) level = omega arith

of_procedure : (w : Way) (a k : ℕ) (h : Heading) (b : Block) → a ≤ k ⊕⟨ w ⟩ bound_block w b
    → a ≤ k ⊕⟨ w ⟩ decl_form w (layer.Procedure h b)
of_procedure by_size a k h b l = omega (arith, l)
of_procedure by_depth a k h b l = omega (arith, l)
of_procedure (by_distance far) a k h b l = omega (arith, l)

none_far : (ds : List Decl) → deepest (map (λ (d : Decl). 0) ds) ≤ 0
none_far [] = omega arith
none_far (d ∷ ds) = omega (arith, none_far ds)

of_block : (w : Way) (b : Block-F Decl Block) → total_of w (map (bound_decl w) b.decls) ⊕⟨ w ⟩ bound_body w b.body
    ≤ block_form w b
of_block by_size b = omega arith
of_block by_depth b = omega arith
of_block (by_distance far) b = omega (arith, none_far b.decls)

of_implementation_block : (w : Way) (b : Block) → bound_block w b ≤ bound_contents w (contents.Implementation b)
of_implementation_block by_size b = omega arith
of_implementation_block by_depth b = omega arith
of_implementation_block (by_distance far) b = omega arith

of_program : (w : Way) (b : Block) → bound_block w b ≤ bound_contents w (contents.Program b)
of_program by_size b = omega arith
of_program by_depth b = omega arith
of_program (by_distance far) b = omega arith

of_module : (w : Way) (m : Module) → bound_contents w m.contents ≤ bound_module w m
of_module by_size m = omega arith
of_module by_depth m = omega arith
of_module (by_distance far) m = omega arith

module_sum : (w : Way) (t : TypedModule) (level n : ℕ)
    → all_of w (weight_routine w) t.procedures ⊕⟨ w ⟩ all_of w (weight_routine w) t.locals ⊕⟨ w ⟩ body_at w level t.body
    ≤ n → weight_bodies w t ≤ n
module_sum by_size t level n h = omega (arith, h)
module_sum by_depth t level n h = omega (arith, h)
module_sum (by_distance far) t level n h = omega (arith, h)

-- ---- the bodies so far

abbrev so_far : Way → Bodies → ℕ
so_far w rs = all_of w (weight_routine w) rs.procedures ⊕⟨ w ⟩ all_of w (weight_routine w) rs.locals

-- one that is put in place of another
sum_set : {A : Type 0} (f : A → ℕ) (xs : List A) (n : ℕ) (x : A) → sum_of f (slice_set xs n x) ≤ sum_of f xs + f x
sum_set f [] n x = omega arith
sum_set f (y ∷ xs) zero x = omega arith
sum_set f (y ∷ xs) (suc n) x = omega (arith, sum_set f xs n x)

set_most : {A : Type 0} (w : Way) (f : A → ℕ) (xs : List A) (n : ℕ) (x : A)
    → all_of w f (slice_set xs n x) ≤ all_of w f xs ⊕⟨ w ⟩ f x
set_most by_size f xs n x = sum_set f xs n x
set_most by_depth f xs n x = deepest_set f xs n x
set_most (by_distance far) f xs n x = deepest_set f xs n x

first_filled : (w : Way) (a b c d n m : ℕ) → a ≤ b ⊕⟨ w ⟩ c → b ⊕⟨ w ⟩ d ≤ n → c ≤ m → a ⊕⟨ w ⟩ d ≤ n ⊕⟨ w ⟩ m
first_filled by_size a b c d n m h i j = omega (arith, h, i, j)
first_filled by_depth a b c d n m h i j = omega (arith, h, i, j)
first_filled (by_distance far) a b c d n m h i j = omega (arith, h, i, j)

second_filled : (w : Way) (a b c d n m : ℕ) → a ≤ b ⊕⟨ w ⟩ c → d ⊕⟨ w ⟩ b ≤ n → c ≤ m → d ⊕⟨ w ⟩ a ≤ n ⊕⟨ w ⟩ m
second_filled by_size a b c d n m h i j = omega (arith, h, i, j)
second_filled by_depth a b c d n m h i j = omega (arith, h, i, j)
second_filled (by_distance far) a b c d n m h i j = omega (arith, h, i, j)

filled_most : (w : Way) (n m : ℕ) (rs : Bodies) (k : Which) (r : Routine) → so_far w rs ≤ n → weight_routine w r ≤ m
    → so_far w (put_routine rs k r) ≤ n ⊕⟨ w ⟩ m
filled_most w n m rs (which.Module k) r p q =
    first_filled w _ _ _ _ n m (set_most w (weight_routine w) rs.procedures k r) p q
filled_most w n m rs (which.Local k) r p q =
    second_filled w _ _ _ _ n m (set_most w (weight_routine w) rs.locals k r) p q

begun_sum : (w : Way) (a b c e n : ℕ) → b ≡ c ⊕⟨ w ⟩ e → e ≡ 0 → a ⊕⟨ w ⟩ c ≤ n → a ⊕⟨ w ⟩ b ≤ n
begun_sum by_size a b c e n h i j = omega (arith, h, i, j)
begun_sum by_depth a b c e n h i j = omega (arith, h, i, j)
begun_sum (by_distance far) a b c e n h i j = omega (arith, h, i, j)

begun_by : (w : Way) (b : Bool) (n : ℕ) (rs : Bodies) → so_far w rs ≤ n
    → so_far w (cond b rs (record rs { locals = rs.locals ++ empty_routine integer ∷ [] })) ≤ n
begun_by w true n rs p = p
begun_by w false n rs p = begun_sum w _ _ _ _ n (all_pushed w (weight_routine w) rs.locals (empty_routine integer))
    (no_body w (empty_routine integer).level) p

begun_most : (w : Way) (n level : ℕ) (rs : Bodies) → so_far w rs ≤ n → so_far w (begun_at level rs) ≤ n
begun_most w n level rs p = begun_by w (level == 0) n rs p

kept : (w : Way) (n m k : ℕ) → k ≤ n → k ≤ n ⊕⟨ w ⟩ m
kept by_size n m k h = omega (arith, h)
kept by_depth n m k h = omega (arith, h)
kept (by_distance far) n m k h = omega (arith, h)

procedure_sum : (w : Way) (a k m j n : ℕ) → a ≤ k ⊕⟨ w ⟩ m ⊕⟨ w ⟩ j → m ⊕⟨ w ⟩ j ≤ n → a ≤ k ⊕⟨ w ⟩ n
procedure_sum by_size a k m j n h i = omega (arith, h, i)
procedure_sum by_depth a k m j n h i = omega (arith, h, i)
procedure_sum (by_distance far) a k m j n h i = omega (arith, h, i)

both_sum : (w : Way) (a b n d e : ℕ) → a ≤ 0 ⊕⟨ w ⟩ d → 0 ⊕⟨ w ⟩ b ≤ 0 ⊕⟨ w ⟩ e → d ⊕⟨ w ⟩ e ≤ n → a ⊕⟨ w ⟩ b ≤ n
both_sum by_size a b n d e h i j = omega (arith, h, i, j)
both_sum by_depth a b n d e h i j = omega (arith, h, i, j)
both_sum (by_distance far) a b n d e h i j = omega (arith, h, i, j)

none_sum : (w : Way) (a b : ℕ) → a ≤ 0 → b ≤ 0 → a ⊕⟨ w ⟩ b ≤ 0
none_sum by_size a b h i = omega (arith, h, i)
none_sum by_depth a b h i = omega (arith, h, i)
none_sum (by_distance far) a b h i = omega (arith, h, i)

all_more : {A : Type 0} (w : Way) (f : A → ℕ) (x : A) (xs : List A) → all_of w f (x ∷ xs) ≤ f x ⊕⟨ w ⟩ all_of w f xs
all_more by_size f x xs = omega arith
all_more by_depth f x xs = omega arith
all_more (by_distance far) f x xs = omega arith

none_yet : (w : Way) (hs : List TypeNo) → all_of w (weight_routine w) (map empty_routine hs) ≤ 0
none_yet w [] = le_of _ 0 (none_of w (weight_routine w))
none_yet w (h ∷ hs) = le_trans _ _ 0 (all_more w (weight_routine w) (empty_routine h) (map empty_routine hs))
    (none_sum w _ _ (le_of _ 0 (no_body w (empty_routine h).level)) (none_yet w hs))

module _ (way : Way) where
  infixl 65 ◌⊕◌
  abbrev ◌⊕◌ : ℕ → ℕ → ℕ
  m ⊕ n = m ⊕⟨ way ⟩ n

  module _ (g : Gathers) (elaborates : Elaborates g.Reported)
      (small : (s : Scope g.Reported) (r : Option (Result TypeNo g.Reported)) (xs : List Stmt)
      → AtMost (body_at way s.level) (bound_body way (Some xs)) (elaborates s r xs)) where
    -- ---- one procedure

    with_routine_most : (n m : ℕ) (s : Scope g.Reported) (name : Ident) (around : Option Which) (formals : ℕ)
        (o : Option Numbered) {body : Result (List TypedStmt) g.Reported} (rs : Bodies) → so_far way rs ≤ n
        → AtMost (body_at way s.level) m body
        → so_far way (with_routine s name around formals o body rs) ≤ n ⊕ m
    with_routine_most n m s name around formals None rs p q = kept way n m _ p
    with_routine_most n m s name around formals (Some k) rs p (fine xs q) =
        filled_most way n m rs k.which (routine s name k around formals xs) p q
    with_routine_most n m s name around formals (Some k) rs p (broken e) = kept way n m _ p

    pub statements_most : (s : Scope g.Reported) (returns : Option (Result TypeNo g.Reported))
        (body : Option (List Stmt))
        → AtMost (body_at way s.level) (bound_body way body) (statements_of elaborates s returns body)
    statements_most s returns None = fine [] (omega (arith, no_body way s.level))
    statements_most s returns (Some xs) = small s returns xs

    -- a declaration adds at most so many
    abbrev Adds : ℕ → Checks g.Reported → Type 0
    Adds n f = (around : Option Which) (seen : ℕ) (w : Walk g.Reported) (k : ℕ) → so_far way w.bodies ≤ k
        → so_far way (f around seen w).bodies ≤ k ⊕ n

    -- a block with its own statements
    abbrev AddsBlock : ℕ → ChecksBlock g.Reported → Type 0
    AddsBlock n f = (around : Option Which) (returns : Option (Result TypeNo g.Reported)) (w : Walk g.Reported) (k : ℕ)
        → so_far way w.bodies ≤ k
        → (m j : ℕ) × (m ⊕ j ≤ n) × (so_far way (f around returns w).0.bodies ≤ k ⊕ m)
        × AtMost (body_at way (f around returns w).0.scope.level) j (f around returns w).1

    procedure_most : (n : ℕ) (h : Heading) (block : ChecksBlock g.Reported) (ends : List ℕ) → AddsBlock n block
        → Adds n (procedure_checked g elaborates ends h block)
    procedure_most n h block ends adds around seen w k p =
        let b = begun_procedure g w seen h in
        let r = adds (which_of b.1.procedure) b.1.returns b.0 k (begun_most way k w.scope.level w.bodies p) in
        procedure_sum way _ k r.0 r.1 n (with_routine_most (k ⊕ r.0) r.1 (block (which_of b.1.procedure) b.1.returns
        b.0).0.scope h.name around b.1.formals b.1.procedure (block (which_of b.1.procedure) b.1.returns
        b.0).0.bodies r.3 r.4) r.2

    -- ---- a block

    abbrev AllAdd : List ℕ → List (Steps g.Reported) → Type 0
    AllAdd [] [] = Unit {0}
    AllAdd (n ∷ ns) (x ∷ xs) = Adds n x.checks × AllAdd ns xs
    AllAdd [] (x ∷ xs) = ⊥
    AllAdd (n ∷ ns) [] = ⊥

    bodies_most : (around : Option Which) (seen : List ℕ) (ns : List ℕ) (xs : List (Steps g.Reported))
        (st : Walk g.Reported × ℕ) (k : ℕ) → so_far way st.0.bodies ≤ k → AllAdd ns xs
        → so_far way (fold (with_body (λ (x : Steps g.Reported). checked_by x around) seen) st xs).0.bodies
        ≤ k ⊕ total_of way ns
    bodies_most around seen [] [] st k p all = le_trans _ k _ p (none_left way k)
    bodies_most around seen [] (x ∷ xs) st k p all = absurd all
    bodies_most around seen (n ∷ ns) [] st k p all = absurd all
    bodies_most around seen (n ∷ ns) (x ∷ xs) st k p all =
        le_trans _ _ _ (bodies_most around seen ns xs (with_body (λ (x : Steps g.Reported). checked_by x around) seen st
        x) (k ⊕ n) (all.0 around _ st.0 k p) all.1) (all_again way k n ns)

    -- ---- the induction

    module _ (ends : List ℕ) where
      abbrev steps_of : Decl → Steps g.Reported
      steps_of = steps g elaborates ends

      abbrev block_of : Block → ChecksBlock g.Reported
      block_of = checks_block g elaborates ends

      abbrev PD : Decl → Type 0
      PD d = Adds (bound_decl way d) (steps_of d).checks

      abbrev PB : Block → Type 0
      PB b = AddsBlock (bound_block way b) (block_of b)

      abbrev SD : Type 0
      SD = (d : Decl) × PD d

      abbrev SB : Type 0
      SB = (b : Block) × PB b

      abbrev bare : Decl-F SD SB → Decl-F Decl Block
      bare x = map-Decl SD SB Decl Block (λ e. e.0) (λ e. e.0) x

      abbrev bare_block : Block-F SD SB → Block-F Decl Block
      bare_block x = map-Block SD SB Decl Block (λ e. e.0) (λ e. e.0) x

      abbrev opened : Decl-F Decl Block → Decl-F (Steps g.Reported) (ChecksBlock g.Reported)
      opened x = map-Decl Decl Block (Steps g.Reported) (ChecksBlock g.Reported) steps_of block_of x

      abbrev opened_block : Block-F Decl Block → Block-F (Steps g.Reported) (ChecksBlock g.Reported)
      opened_block x = map-Block Decl Block (Steps g.Reported) (ChecksBlock g.Reported) steps_of block_of x

      at : (e : Decl) (x : Decl-F Decl Block) → out-Decl e ≡ x → steps_of e ≡ steps_layer g elaborates ends (opened x)
      unfolding steps checks_block
      at e x h = fold_out-Decl (Steps g.Reported) (ChecksBlock g.Reported) (steps_layer g elaborates ends)
          (block_layer g elaborates ends) e ∙ ap (λ (y : Decl-F Decl Block). steps_layer g elaborates ends (opened y)) h

      at_block : (e : Block) (x : Block-F Decl Block) → out-Block e ≡ x
          → block_of e ≡ block_layer g elaborates ends (opened_block x)
      unfolding steps checks_block
      at_block e x h = fold_out-Block (Steps g.Reported) (ChecksBlock g.Reported) (steps_layer g elaborates ends)
          (block_layer g elaborates ends) e ∙ ap (λ (y : Block-F Decl Block). block_layer g elaborates ends
          (opened_block y)) h

      all_add : (xs : List SD)
          → AllAdd (map (bound_decl way) (map (λ (x : SD). x.0) xs)) (map steps_of (map (λ (x : SD). x.0) xs))
      all_add [] = tt
      all_add (x ∷ xs) = (x.1, all_add xs)

      decl_most : (y : Decl-F SD SB)
          → Adds (decl_form way (bare y)) (steps_layer g elaborates ends (opened (bare y))).checks
      decl_most (layer.Constants cs) around seen w k p = kept way k _ _ p
      decl_most (layer.Types ts) around seen w k p = kept way k _ _ p
      decl_most (layer.Variables vs) around seen w k p = kept way k _ _ p
      decl_most (layer.Procedure h b) around seen w k p =
          of_procedure way _ k h b.0 (procedure_most (bound_block way b.0) h (block_of b.0) ends b.1 around seen w k p)

      block_most : (y : Block-F SD SB)
          → AddsBlock (block_form way (bare_block y)) (block_layer g elaborates ends (opened_block (bare_block y)))
      block_most y around returns w k p =
          let ds = map steps_of (map (λ (x : SD). x.0) y.decls) in
          let ns = map (bound_decl way) (map (λ (x : SD). x.0) y.decls) in
          let d = all_declared marked_by declared_by again_by (w.scope, w.so_far) (length w.bodies.locals) ds in
          let e = with_bodies (λ (x : Steps g.Reported). checked_by x around) d.2 (begun_from d w.bodies) ds in (
            total_of way ns,
            bound_body way y.body,
            of_block way (bare_block y),
            bodies_most around d.2 ns ds
                (begun_from d w.bodies, 0) k p (all_add y.decls),
            statements_most e.scope returns y.body,
          )

      step_decl : (x : Decl-F Decl Block) (y : Decl-F SD SB) → bare y ≡ x → PD (roll-Decl x)
      step_decl x y q =
          let e = out-roll-Decl x ∙ sym q in
          subst (λ (n : ℕ). Adds n (steps_of (roll-Decl x)).checks) (sym (decl_opened way (roll-Decl x) (bare y) e))
          (subst (λ (f : Steps g.Reported). Adds (decl_form way (bare y)) f.checks) (sym (at (roll-Decl x) (bare y) e))
          (decl_most y))

      step_block : (x : Block-F Decl Block) (y : Block-F SD SB) → bare_block y ≡ x → PB (roll-Block x)
      step_block x y q =
          let e = out-roll-Block x ∙ sym q in
          subst (λ (n : ℕ). AddsBlock n (block_of (roll-Block x)))
          (sym (block_opened way (roll-Block x) (bare_block y) e))
          (subst (AddsBlock (block_form way (bare_block y))) (sym (at_block (roll-Block x) (bare_block y) e))
          (block_most y))

      pub decls_most : (d : Decl) → PD d
      decls_most = ind-Decl PD PB step_decl step_block

      -- ---- the bodies of a module

      written_most : (around : Option Which) (seen : List ℕ) (ds : List Decl) (st : Walk g.Reported × ℕ) (k : ℕ)
          → so_far way st.0.bodies ≤ k
          → so_far way (fold (with_body (λ (d : Decl). checks_decl g elaborates ends d around) seen) st ds).0.bodies
          ≤ k ⊕ all_of way (bound_decl way) ds
      written_most around seen [] st k p = le_trans _ k _ p (no_more way (bound_decl way) k)
      written_most around seen (d ∷ ds) st k p =
          le_trans _ _ _ (written_most around seen ds (with_body (λ (d : Decl). checks_decl g elaborates ends d around)
          seen st d) (k ⊕ bound_decl way d) (decls_most d around _ st.0 k p))
          (sum_again way (bound_decl way) k d ds)

      abbrev begins : (modules : List (List ℕ × ℕ)) (s : Scope g.Reported) (m : Module) (ds : List Decl)
          → Walk g.Reported × List ℕ
      begins modules s m ds = begun_module g modules ends s m ds

      pub walked_bodies : (modules : List (List ℕ × ℕ)) (s : Scope g.Reported) (m : Module) (ds : List Decl)
          → so_far way (bodies_checked g elaborates ends None (begins modules s m ds).1 (begins modules s m ds).0
          ds).bodies ≤ 0 ⊕ all_of way (bound_decl way) ds
      walked_bodies modules s m ds = written_most None (begins modules s m ds).1 ds ((begins modules s m ds).0, 0) 0
          (none_sum way _ _ (none_yet way _) (le_of _ 0 (none_of way (weight_routine way))))

    -- a block, by its declarations and statements
    block_sum : (b : Block) → all_of way (bound_decl way) (out-Block b).decls ⊕ bound_body way (out-Block b).body
        ≤ bound_block way b
    block_sum b =
        subst (λ (n : ℕ). n ⊕ bound_body way (out-Block b).body ≤ bound_block way b)
        (total_all way (bound_decl way) (out-Block b).decls)
        (omega (arith, of_block way (out-Block b), block_opened way b (out-Block b) refl))

    of_walk_most : (modules : List (List ℕ × ℕ)) (s : Scope g.Reported) (own : Option Table) (m : Module) (b : Block)
        → AtMost (weight_bodies way) (bound_block way b) (of_walk g elaborates modules s own m b)
    of_walk_most modules s own m b =
        let ends = procedure_ends (out-Block b).decls in
        let c = walk_body g elaborates modules ends s m b in
        then_most (both_most g way (any_most c.0.so_far) (statements_most c.0.scope None (out-Block b).body))
        (λ p l. fine (typed_module c.0.scope modules own m c.0.bodies p.1)
        (module_sum way (typed_module c.0.scope modules own m c.0.bodies p.1) c.0.scope.level (bound_block way b)
        (both_sum way _ _ _ _ _ (walked_bodies ends modules s m (out-Block b).decls) l (block_sum b))))

    of_implementation_most : (m : Module) (o : Option Table) (tables : List Table) (b : Block)
        → AtMost (weight_bodies way) (bound_block way b) (of_implementation g elaborates m o tables b)
    of_implementation_most m None tables b = broken _
    of_implementation_most m (Some own) tables b = of_walk_most _ _ (Some own) m b

    contents_most : (number : ℕ) (m : Module) (own : Option Table) (tables : List Table) (c : Contents)
        → AtMost (weight_bodies way) (bound_contents way c) (of_contents g elaborates number m own tables c)
    contents_most number m own tables (contents.Definition defs) = broken _
    contents_most number m own tables (contents.Implementation b) =
        at_more (of_implementation_block way b) (of_implementation_most m own tables b)
    contents_most number m own tables (contents.Program b) = at_more (of_program way b) (of_walk_most _ _ None m b)

    pub module_most : (number : ℕ) (m : Module) (own : Option Table) (tables : List Table)
        → AtMost (weight_bodies way) (bound_module way m) (body_module g elaborates number m own tables)
    module_most number m own tables = at_more (of_module way m) (contents_most number m own _ m.contents)
