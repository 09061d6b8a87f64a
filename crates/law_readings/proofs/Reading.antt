-- Two readings of a block are alike, with all procedures inside.
use Rattle.std.proofs.Common.{◌≡◌, ℕ, ◌+◌, ◌==◌, Bool, List, [], ◌∷◌, ◌++◌, Option, Some, inl, inr, refl, sym, ap, subst, ◌∙◌}
use Rattle.std.specs.Prelude.{◌↔◌}
use Rattle.std.proofs.Math.Path.{fun_ext}
use Rattle.m2_rule.specs.declared.breach.Breach.{Breach}
use Rattle.m2_tree.specs.declared.pos.Pos.{Pos}
use Rattle.m2_tree.specs.declared.name.Ident.{Ident}
use Rattle.m2_tree.specs.declared.stmt.Stmt.{Stmt}
use Rattle.m2_tree.specs.declared.decl.Section.{Section}
use Rattle.m2_tree.specs.declared.decl.Heading.{Heading}
use Rattle.m2_tree.specs.declared.decl.Decl.{Decl, Decl-F}
use Rattle.m2_tree.specs.declared.decl.Decl.TheOpen as layer
use Rattle.m2_tree.specs.declared.decl.Block.{Block, out-Block}
use Rattle.typed_tree.specs.declared.types.TypeNo.{TypeNo}
use Rattle.typed_tree.specs.declared.known_types.Types.{Types}
use Rattle.def_typing.specs.Things.{Standing, Known}
use Rattle.def_typing.specs.Parts.{Among, here, later}
use Rattle.def_typing.specs.TypeNames.{NamesType}
use Rattle.def_typing.specs.Headings.{GivesBack}
use Rattle.def_typing.specs.Returns.{Giving, AResult}
use Rattle.def_typing.specs.Declarations.{Declaration, AnyDeclares, Declared, in_order, IsThere, types_behind, declarations_of, AllStand, AllAdded, BrokenIn, Lacks, IsOwn}
use Rattle.def_typing.specs.Again.{BrokenAgain}
use Rattle.def_typing.specs.Statements.{Broken}
use Rattle.def_typing.specs.Bodies as rules
use Rattle.def_typing.specs.Bodies.{formal, Sees, InsideAs, BodyGives, Place, module_variables, in_procedure, statements_in, body_spot, IsNoProcedure, Reads, reads, ReadsBodies, BrokenBlock, BrokenBodies, LacksHeading}
use Rattle.m2_tree.specs.declared.decl.Module.{Module}
use Rattle.m2_tree.specs.declared.decl.Decl.{out-Decl}
use Rattle.typed_tree.specs.declared.meaning.Meaning.{Meaning}
use Rattle.typed_tree.specs.declared.statement.TypedStmt.{TypedStmt}
use Rattle.typed_tree.specs.declared.table.Table.{Table}
use Rattle.typed_tree.specs.declared.typed_module.Which.{Which}
use Rattle.typed_tree.specs.declared.typed_module.TypedModule.{TypedModule}
use Rattle.def_typing.specs.Imports.{Entry}
use Rattle.def_typed.specs.Numbers.{variables_in}
use Rattle.def_typed.specs.Statements.{AllMean}
use Rattle.def_typed.specs.Blocks.{Before, MeansBehind}
use Rattle.def_typed.specs.Bodies.{Routines, with_routine, next_number, HaveTypes, IsEntered, before_entered, body_site, senses_at, MeansBlock, MeansBodies}
use Rattle.def_typed.specs.Modules.{MeansModule}
use Rattle.law_readings.specs.Alike.{ReadingsAreAlike, ModulesAreAlike}
use Rattle.law_readings.proofs.Computing.{both, some_one}
use Rattle.law_readings.proofs.Typing.{names_one, gives_back_one}
use Rattle.law_readings.proofs.Declaring.{IsWithin, all_one, owns_one, whole_one}

-- ---- what is in front of a procedure, and in it

seen_one : {taken : List ℕ → Bool} {block : List Declaration} {Front : List ℕ → Type 0}
    {names : Ident → Standing} {name : Ident} {s t : Standing}
    → Sees taken block Front names name s
    → Sees taken block Front names name t
    → s ≡ t
seen_one (rules.in_front c) (rules.in_front d) = refl
seen_one (rules.in_front c) (rules.a_procedure p) = refl
seen_one (rules.in_front c) (rules.not_yet t a n p) = absurd (n (c t a))
seen_one (rules.a_procedure p) (rules.in_front d) = refl
seen_one (rules.a_procedure p) (rules.a_procedure q) = refl
seen_one (rules.a_procedure p) (rules.not_yet t a n q) = absurd (q p)
seen_one (rules.not_yet t a n p) (rules.in_front d) = absurd (n (d t a))
seen_one (rules.not_yet t a n p) (rules.a_procedure q) = absurd (p q)
seen_one (rules.not_yet t a n p) (rules.not_yet u b m q) = refl

module _ (exports : ℕ → Ident → Standing) where
  module _ (seen : Ident → Standing) (h : Heading) where
    inside_one : {name : Ident} {s t : Standing} → InsideAs exports seen h name s
        → InsideAs exports seen h name t → s ≡ t
    inside_one (rules.a_formal e n) (rules.a_formal {t = u} f m) =
        let z = some_one (sym e ∙ f) in
        both (λ (x : Section) (t : TypeNo). Known (formal x.of.is_open t)) z
        (names_one seen exports n
        (subst (λ (x : Section). NamesType seen exports x.of.of u) (sym z) m))
    inside_one (rules.a_formal {t = t} e n) (rules.no_type f m) =
        absurd
        (m t (subst (λ (x : Section). NamesType seen exports x.of.of t) (some_one (sym e ∙ f)) n))
    inside_one (rules.a_formal e n) (rules.no_formal f) = let z = sym e ∙ f in absurd cc
    inside_one (rules.no_type e n) (rules.a_formal {t = t} f m) =
        absurd
        (n t (subst (λ (x : Section). NamesType seen exports x.of.of t) (some_one (sym f ∙ e)) m))
    inside_one (rules.no_type e n) (rules.no_type f m) = refl
    inside_one (rules.no_type e n) (rules.no_formal f) = let z = sym e ∙ f in absurd cc
    inside_one (rules.no_formal e) (rules.a_formal f m) = let z = sym e ∙ f in absurd cc
    inside_one (rules.no_formal e) (rules.no_type f m) = let z = sym e ∙ f in absurd cc
    inside_one (rules.no_formal e) (rules.no_formal f) = refl

    back_one : {types : Types} {r s : Option TypeNo} → GivesBack types seen exports h.result r
        → GivesBack types seen exports h.result s → r ≡ s
    back_one {types = types} b c = gives_back_one seen exports types b c

    gives_one : {types : Types} {g k : Giving} → BodyGives exports seen h types g
        → BodyGives exports seen h types k → g ≡ k
    gives_one (rules.gives_nothing b) (rules.gives_nothing c) = refl
    gives_one (rules.gives_nothing b) (rules.gives_result c) = let z = back_one b c in absurd cc
    gives_one (rules.gives_nothing b) (rules.gives_any n) = absurd (n _ b)
    gives_one (rules.gives_result b) (rules.gives_nothing c) = let z = back_one b c in absurd cc
    gives_one (rules.gives_result b) (rules.gives_result c) =
        ap (λ (t : TypeNo). AResult t) (some_one (back_one b c))
    gives_one (rules.gives_result b) (rules.gives_any n) = absurd (n _ b)
    gives_one (rules.gives_any n) (rules.gives_nothing c) = absurd (n _ c)
    gives_one (rules.gives_any n) (rules.gives_result c) = absurd (n _ c)
    gives_one (rules.gives_any n) (rules.gives_any m) = refl

-- ---- declarations of a block

among_left : {A : Type 0} {x : A} {xs : List A} (ys : List A) → Among x xs → Among x (xs ++ ys)
among_left ys here = here
among_left ys (later m) = later (among_left ys m)

among_last : {A : Type 0} {x : A} (xs : List A) → Among x (xs ++ x ∷ [])
among_last [] = here
among_last (y ∷ xs) = later (among_last xs)

there_any : {n : List ℕ} (whole : List Declared) → IsThere whole n → AnyDeclares (in_order whole) n
there_any [] (x, m, h) = elim m [ ]
there_any (d ∷ front) (x, here, h) = (x, among_last (in_order front), h)
there_any (d ∷ front) (x, later m, h) =
    let q = there_any front (x, m, h) in (q.0, among_left (d.what ∷ []) q.1, q.2)

-- ---- readings

module _ (exports : ℕ → Ident → Standing) where
  -- two readings, maybe of places and blocks that are only shown to be equal
  record SameBlock {p o : Place} {types end last : Types} {b c : Block}
      (r : Reads exports p types b end) (q : Reads exports o types c last) : Type 0 where
    same_end : end ≡ last
    same_rules : (f : Breach) → BrokenBlock exports r f ↔ BrokenBlock exports q f
    same_trees : (of_exports : ℕ → Ident → Option Meaning) (before : Before)
        (around : Option Which) (rs : Routines) (vs : List TypeNo) (xs : List TypedStmt)
        → MeansBlock exports of_exports r before around rs vs xs
        ↔ MeansBlock exports of_exports q before around rs vs xs

  record SameBodies {p : Place} {block front : List Declaration} {names others : Ident → Standing}
      {own owns : Ident → Bool} {from to end last : Types} {ds : List Decl}
      (r : ReadsBodies exports p block names own front from ds end)
      (q : ReadsBodies exports p block others owns front to ds last) : Type 0 where
    same_end : end ≡ last
    same_rules : (f : Breach) → BrokenBodies exports r f ↔ BrokenBodies exports q f
    same_trees : (of_exports : ℕ → Ident → Option Meaning) (before : Before)
        (of_names : Ident → Option Meaning) (around : Option Which) (n : ℕ) (rs : Routines)
        → MeansBodies exports of_exports r before of_names around n rs
        ↔ MeansBodies exports of_exports q before of_names around n rs

  block_as : {p o : Place} {types end last : Types} {b c : Block}
      → p ≡ o
      → b ≡ c
      → (r : Reads exports p types b end)
      → ((q : Reads exports p types b last) → SameBlock r q)
      → (q : Reads exports o types c last)
      → SameBlock r q
  block_as {p = p} {types = types} {last = last} {c = c} e f r same =
      subst (λ (o : Place). (q : Reads exports o types c last) → SameBlock r q) e
      (subst (λ (c : Block). (q : Reads exports p types c last) → SameBlock r q) f same)

  bodies_as : {p : Place} {block front : List Declaration} {names others : Ident → Standing}
      {own owns : Ident → Bool} {from to end last : Types} {ds : List Decl}
      → names ≡ others
      → own ≡ owns
      → from ≡ to
      → (r : ReadsBodies exports p block names own front from ds end)
      → ((q : ReadsBodies exports p block names own front from ds last) → SameBodies r q)
      → (q : ReadsBodies exports p block others owns front to ds last)
      → SameBodies r q
  bodies_as {p = p} {block = block} {front = front} {names = names} {own = own} {owns = owns}
      {to = to} {last = last} {ds = ds} e f h r same =
      subst
      (λ (others : Ident → Standing).
      (q : ReadsBodies exports p block others owns front to ds last) → SameBodies r q)
      e
      (subst
      (λ (owns : Ident → Bool).
      (q : ReadsBodies exports p block names owns front to ds last) → SameBodies r q)
      f
      (subst
      (λ (to : Types).
      (q : ReadsBodies exports p block names own front to ds last) → SameBodies r q)
      h same))

  abbrev heading_in : Heading → Decl-F Decl Block → Heading
  heading_in h (layer.Procedure k b) = k
  heading_in h other = h

  abbrev block_in : Block → Decl-F Decl Block → Block
  block_in b (layer.Procedure k c) = c
  block_in b other = b

  same_heading : {y : Decl-F Decl Block} {h k : Heading} {b c : Block} → y ≡ layer.Procedure h b
      → y ≡ layer.Procedure k c → h ≡ k
  same_heading {h = h} p q = ap (heading_in h) (sym p ∙ q)

  same_block : {y : Decl-F Decl Block} {h k : Heading} {b c : Block} → y ≡ layer.Procedure h b
      → y ≡ layer.Procedure k c → b ≡ c
  same_block {b = b} p q = ap (block_in b) (sym p ∙ q)

  -- the rules that are broken in statements
  abbrev Stating : Place → Block → Types → (Ident → Standing) → (Ident → Bool) → Breach → Type 0
  Stating p b end names own f =
      (x : Stmt) × Among x (statements_in (out-Block b).body)
      × Broken end exports (body_spot p names own) x f

  stating_as : (p : Place) (b : Block) {end last : Types} {names others : Ident → Standing}
      {own owns : Ident → Bool} {f : Breach}
      → end ≡ last
      → names ≡ others
      → own ≡ owns
      → Stating p b end names own f
      → Stating p b last others owns f
  stating_as p b {end = end} {last = last} {names = names} {others = others} {own = own} {f = f} e h
      k s =
      subst (λ (own : Ident → Bool). Stating p b last others own f) k
      (subst (λ (names : Ident → Standing). Stating p b last names own f) h
      (subst (λ (end : Types). Stating p b end names own f) e s))

  -- ---- typed trees

  module _ (of_exports : ℕ → Ident → Option Meaning) where
    -- a block's typed trees, if B says what its procedures are
    abbrev Meaning_of : Place → Block → Types → (Ident → Standing) → (Ident → Bool)
        → ((Ident → Option Meaning) → Type 0) → Before → List TypeNo → List TypedStmt → Type 0
    Meaning_of p b end names own B before vs xs =
        (of_names : Ident → Option Meaning)
        × ((name : Ident)
        → MeansBehind before p.taken p.awaited names (out-Block b).decls name (of_names name))
        × HaveTypes names (variables_in (declarations_of (out-Block b).decls)) vs
        × B of_names
        × AllMean end exports (body_site p names own (senses_at exports of_exports before of_names))
        (statements_in (out-Block b).body) xs

    meaning_as : (p : Place) (b : Block) {end last : Types} {names others : Ident → Standing}
        {own owns : Ident → Bool} (B : (Ident → Option Meaning) → Type 0) (before : Before)
        {vs : List TypeNo} {xs : List TypedStmt}
        → end ≡ last
        → names ≡ others
        → own ≡ owns
        → Meaning_of p b end names own B before vs xs
        → Meaning_of p b last others owns B before vs xs
    meaning_as p b {end = end} {last = last} {names = names} {others = others} {own = own} B before
        {vs = vs} {xs = xs} e h k s =
        subst (λ (own : Ident → Bool). Meaning_of p b last others own B before vs xs) k
        (subst (λ (names : Ident → Standing). Meaning_of p b last names own B before vs xs) h
        (subst (λ (end : Types). Meaning_of p b end names own B before vs xs) e s))

    meaning_with : (p : Place) (b : Block) (end : Types) (names : Ident → Standing)
        (own : Ident → Bool) (B C : (Ident → Option Meaning) → Type 0) (before : Before)
        {vs : List TypeNo} {xs : List TypedStmt}
        → ((of_names : Ident → Option Meaning) → B of_names → C of_names)
        → Meaning_of p b end names own B before vs xs
        → Meaning_of p b end names own C before vs xs
    meaning_with p b end names own B C before f s =
        (s.0, s.1, s.2, f s.0 s.3, s.4)

    -- procedures that begin with one of this heading, if B says what its block is and R what stands
    -- behind it
    abbrev Entering : Heading → (Ident → Standing)
        → (Before → Option Which → Routines → List TypeNo → List TypedStmt → Type 0)
        → (Routines → Type 0) → Before → (Ident → Option Meaning) → Option Which → ℕ → Routines
        → Type 0
    Entering h seen B R before of_names around n rs =
        (x : IsEntered exports before seen of_names n h) × (within : Routines) × (behind : Routines)
        × (vs : List TypeNo) × (xs : List TypedStmt)
        × B (before_entered exports x) (Some x.which) within vs xs
        × R behind
        × (rs
        ≡ with_routine x.which
        (record {
          pos = h.name.pos;
          heading = x.heading;
          level = before.level + 1;
          around = around;
          variables = vs;
          body = xs;
        }) within behind)

    entering_as : {h k : Heading} {seen sees : Ident → Standing}
        (B : Before → Option Which → Routines → List TypeNo → List TypedStmt → Type 0)
        (R : Routines → Type 0) (before : Before) (of_names : Ident → Option Meaning)
        (around : Option Which) (n : ℕ) (rs : Routines)
        → h ≡ k
        → seen ≡ sees
        → Entering h seen B R before of_names around n rs
        → Entering k sees B R before of_names around n rs
    entering_as {k = k} {seen = seen} B R before of_names around n rs e f s =
        subst (λ (seen : Ident → Standing). Entering k seen B R before of_names around n rs) f
        (subst (λ (h : Heading). Entering h seen B R before of_names around n rs) e s)

    entering_with : (h : Heading) (seen : Ident → Standing)
        (B C : Before → Option Which → Routines → List TypeNo → List TypedStmt → Type 0)
        (R Q : Routines → Type 0) (before : Before) (of_names : Ident → Option Meaning)
        (around : Option Which) (n : ℕ) (rs : Routines)
        → ((at : Before) (which : Option Which) (within : Routines) (vs : List TypeNo)
        (xs : List TypedStmt) → B at which within vs xs → C at which within vs xs)
        → ((behind : Routines) → R behind → Q behind)
        → Entering h seen B R before of_names around n rs
        → Entering h seen C Q before of_names around n rs
    entering_with h seen B C R Q before of_names around n rs f g s =
        (s.0, s.1, s.2, s.3, s.4, f _ _ _ _ _ s.5, g _ s.6, s.7)

  -- what two readings of a block share
  module _ (p : Place) (types : Types) (b : Block) where
    abbrev Ds : List Declaration
    Ds = declarations_of (out-Block b).decls

    abbrev Breaks : List Declared → Breach → Type 0
    Breaks = BrokenIn types exports p.names p.taken p.awaited p.nested Ds

    abbrev Rebreaks : List Declared → (Ident → Standing) → Breach → Type 0
    Rebreaks whole names f = BrokenAgain (types_behind types whole) exports p.taken Ds names [] Ds f

    rebreaks_as : {whole others : List Declared} {names named : Ident → Standing} {f : Breach} → whole ≡ others
        → names ≡ named → Rebreaks whole names f → Rebreaks others named f
    rebreaks_as {others = others} {names = names} {f = f} w e k =
        subst (λ (named : Ident → Standing). Rebreaks others named f) e
        (subst (λ (whole : List Declared). Rebreaks whole names f) w k)

    abbrev Stand : List Declared → (Ident → Standing) → Type 0
    Stand = AllStand types exports p.names p.taken p.awaited p.nested Ds

    within : (whole : List Declared) → in_order whole ≡ Ds
        → IsWithin types exports p.names p.taken p.awaited p.nested Ds whole
    within whole e n a = subst (λ (ds : List Declaration). AnyDeclares ds n) e (there_any whole a)

    abbrev Own : List Declared → (Ident → Bool) → Type 0
    Own whole own =
        (name : Ident)
        → IsOwn types exports p.names p.taken p.awaited p.nested Ds p.own whole name (own name)

    wholes : {whole others : List Declared}
        → in_order whole ≡ Ds
        → in_order others ≡ Ds
        → AllAdded types exports p.names p.taken p.awaited p.nested Ds whole
        → AllAdded types exports p.names p.taken p.awaited p.nested Ds others
        → whole ≡ others
    wholes {whole = whole} e f a c =
        whole_one types exports p.names p.taken p.awaited p.nested Ds (within whole e) (e ∙ sym f) a
        c

    stands : {whole others : List Declared} {names named : Ident → Standing} → in_order whole ≡ Ds
        → whole ≡ others → Stand whole names → Stand others named → names ≡ named
    stands {whole = whole} {named = named} e w s t =
        all_one types exports p.names p.taken p.awaited p.nested Ds (within whole e) s
        (subst (λ (whole : List Declared). Stand whole named) (sym w) t)

    owners : {whole others : List Declared} {own owns : Ident → Bool} → in_order whole ≡ Ds
        → whole ≡ others → Own whole own → Own others owns → own ≡ owns
    owners {whole = whole} {owns = owns} e w s t =
        owns_one types exports p.names p.taken p.awaited p.nested Ds p.own (within whole e) s
        (subst (λ (whole : List Declared). Own whole owns) (sym w) t)

  mutual
    blocks_alike : {p : Place} {types end last : Types} {b : Block}
        (r : Reads exports p types b end) (q : Reads exports p types b last) → SameBlock r q
    blocks_alike {p = p} {types = types} {end = end} {last = last} {b = b}
        (reads whole names own order added stand owned bodies)
        (reads others named owns follow adds stood owners_of inner) =
        let w = wholes p types b order follow added adds in
        let e = stands p types b order w stand stood in
        let o = owners p types b order w owned owners_of in
        let z = bodies_as e o (ap (λ (whole : List Declared). types_behind types whole) w) bodies
        (λ q. bodies_alike bodies q) inner in
        record {
          same_end = z.same_end;
          same_rules = λ f. (
            (λ x. elim x [
              | inl k ↦
                  inl (subst (λ (whole : List Declared). Breaks p types b whole f) w k)
              | inr y ↦ elim y [
                | inl k ↦ inr (inl (rebreaks_as p types b w e k))
                | inr v ↦ elim v [
                  | inl k ↦ inr (inr (inl ((z.same_rules f).0 k)))
                  | inr k ↦ inr (inr (inr (stating_as p b z.same_end e o k)))
                ]
              ]
            ]),
            (λ x. elim x [
              | inl k ↦ inl
                  (subst (λ (whole : List Declared). Breaks p types b whole f) (sym w) k)
              | inr y ↦ elim y [
                | inl k ↦ inr (inl (rebreaks_as p types b (sym w) (sym e) k))
                | inr v ↦ elim v [
                  | inl k ↦ inr (inr (inl ((z.same_rules f).1 k)))
                  | inr k ↦ inr (inr (inr (stating_as p b (sym z.same_end) (sym e) (sym o) k)))
                ]
              ]
            ]),
          );
          same_trees = λ of_exports before around rs vs xs. (
            (λ x.
                meaning_as of_exports p b
                (λ of_names. MeansBodies exports of_exports inner before of_names around before.nested rs) before
                z.same_end e o
                (meaning_with of_exports p b end names own
                (λ of_names. MeansBodies exports of_exports bodies before of_names around before.nested rs)
                (λ of_names. MeansBodies exports of_exports inner before of_names around before.nested rs) before
                (λ of_names k. (z.same_trees of_exports before of_names around before.nested rs).0 k) x)),
            (λ x.
                meaning_as of_exports p b
                (λ of_names. MeansBodies exports of_exports bodies before of_names around before.nested rs) before
                (sym z.same_end) (sym e) (sym o)
                (meaning_with of_exports p b last named owns
                (λ of_names. MeansBodies exports of_exports inner before of_names around before.nested rs)
                (λ of_names. MeansBodies exports of_exports bodies before of_names around before.nested rs) before
                (λ of_names k. (z.same_trees of_exports before of_names around before.nested rs).1 k) x)),
          );
        }

    bodies_alike : {p : Place} {block front : List Declaration} {names : Ident → Standing}
        {own : Ident → Bool} {types end last : Types} {ds : List Decl}
        (r : ReadsBodies exports p block names own front types ds end)
        (q : ReadsBodies exports p block names own front types ds last)
        → SameBodies r q
    bodies_alike rules.no_more rules.no_more =
        record {
          same_end = refl;
          same_rules = λ f. ((λ b. b), (λ b. b));
          same_trees = λ of_exports before of_names around n rs. ((λ b. b), (λ b. b));
        }
    bodies_alike (rules.no_body n r) (rules.no_body m q) =
        let z = bodies_alike r q in
        record {
          same_end = z.same_end;
          same_rules = z.same_rules;
          same_trees = λ of_exports before of_names around n rs. z.same_trees of_exports before of_names around n rs;
        }
    bodies_alike (rules.no_body n r) (rules.a_body seen inside gives e s i g c q) =
        absurd (subst IsNoProcedure e n)
    bodies_alike (rules.a_body seen inside gives e s i g c r) (rules.no_body m q) =
        absurd (subst IsNoProcedure e m)
    bodies_alike {p = p} {block = block} {own = own} {types = types}
        (rules.a_body {d = x} {h = h} {b = b} seen inside gives e s i g c r)
        (rules.a_body {h = k} {b = a} sees indoors gave f t j v d q) =
        let eh = same_heading e f in
        let es : seen ≡ sees = fun_ext (λ name. seen_one (s name) (t name)) in
        let ei : inside ≡ indoors = fun_ext (λ name.
        inside_one exports seen h (i name)
        (subst (λ (h : Heading). InsideAs exports seen h name (indoors name)) (sym eh)
        (subst (λ (seen : Ident → Standing). InsideAs exports seen k name (indoors name)) (sym es)
        (j name)))) in
        let eg : gives ≡ gave = gives_one exports seen h g
        (subst (λ (h : Heading). BodyGives exports seen h types gave) (sym eh)
        (subst (λ (seen : Ident → Standing). BodyGives exports seen k types gave) (sym es) v)) in
        let ep = ap (λ (h : Heading). in_procedure h inside (module_variables p block own) gives) eh
        ∙ both
        (λ (inside : Ident → Standing) (gives : Giving).
        in_procedure k inside (module_variables p block own) gives)
        ei eg in
        let y = block_as ep (same_block e f) c (λ q. blocks_alike c q) d in
        let z = bodies_as refl refl y.same_end r (λ q. bodies_alike r q) q in
        record {
          same_end = z.same_end;
          same_rules = λ x. (
            (λ w. elim w [
              | inl k ↦ inl ((y.same_rules x).0 k)
              | inr k ↦ inr ((z.same_rules x).0 k)
            ]),
            (λ w. elim w [
              | inl k ↦ inl ((y.same_rules x).1 k)
              | inr k ↦ inr ((z.same_rules x).1 k)
            ]),
          );
          same_trees = λ of_exports before of_names around n rs.
              let next = next_number (before.level == 0) n (out-Decl x) in (
                (λ w.
                    entering_as of_exports (λ at which within vs xs. MeansBlock exports of_exports d at which within vs
                    xs)
                    (λ behind. MeansBodies exports of_exports q before of_names around next behind) before of_names
                    around n rs eh es
                    (entering_with of_exports h seen (λ at which within vs xs. MeansBlock exports of_exports c at which
                    within vs xs)
                    (λ at which within vs xs. MeansBlock exports of_exports d at which within vs xs)
                    (λ behind. MeansBodies exports of_exports r before of_names around next behind)
                    (λ behind. MeansBodies exports of_exports q before of_names around next behind) before of_names
                    around n rs
                    (λ at which within vs xs k. (y.same_trees of_exports at which within vs xs).0 k)
                    (λ behind k. (z.same_trees of_exports before of_names around next behind).0 k) w)),
                (λ w.
                    entering_as of_exports (λ at which within vs xs. MeansBlock exports of_exports c at which within vs
                    xs)
                    (λ behind. MeansBodies exports of_exports r before of_names around next behind) before of_names
                    around n rs (sym eh) (sym es)
                    (entering_with of_exports k sees (λ at which within vs xs. MeansBlock exports of_exports d at which
                    within vs xs)
                    (λ at which within vs xs. MeansBlock exports of_exports c at which within vs xs)
                    (λ behind. MeansBodies exports of_exports q before of_names around next behind)
                    (λ behind. MeansBodies exports of_exports r before of_names around next behind) before of_names
                    around n rs
                    (λ at which within vs xs k. (y.same_trees of_exports at which within vs xs).1 k)
                    (λ behind k. (z.same_trees of_exports before of_names around next behind).1 k) w)),
              );
        }

  headings_alike : {p : Place} {types end last : Types} {b : Block}
      (r : Reads exports p types b end) (q : Reads exports p types b last) (at : Pos) (f : Breach)
      → LacksHeading exports r at f ↔ LacksHeading exports q at f
  headings_alike {p = p} {types = types} {b = b}
      (reads whole names own order added stand owned bodies)
      (reads others named owns follow adds stood owners_of inner) at f =
      let w = wholes p types b order follow added adds in (
        (λ x.
            subst
            (λ (whole : List Declared).
            Lacks types exports p.names p.taken p.awaited p.nested (Ds p types b) at whole f)
            w x),
        (λ x.
            subst
            (λ (whole : List Declared).
            Lacks types exports p.names p.taken p.awaited p.nested (Ds p types b) at whole f)
            (sym w) x),
      )

pub readings_alike : ReadingsAreAlike
readings_alike exports p types end last b r q =
    let z = blocks_alike exports r q in
    record {
      same_types = z.same_end;
      same_rules = z.same_rules;
      same_headings = headings_alike exports r q;
      same_trees = λ of_exports before around rs vs xs. z.same_trees of_exports before around rs vs xs;
    }

means_as : (home : ℕ) (tables : List Table) (exported : List Entry) (of_definition : List (List ℕ × ℕ))
    (m : Module) (exports : ℕ → Ident → Standing) (p : Place) (types end last : Types) (b : Block)
    (r : Reads exports p types b end) (q : Reads exports p types b last) (t : TypedModule)
    → MeansModule home tables exported of_definition m exports r t
    → MeansModule home tables exported of_definition m exports q t
means_as home tables exported of_definition m exports p types end last b r q t x =
    let z = readings_alike exports p types end last b r q in
    record {
      of_name = x.of_name;
      of_pos = x.of_pos;
      of_imports = x.of_imports;
      of_types = x.of_types ∙ z.same_types;
      of_names = x.of_names;
      means = x.means;
      routines = x.routines;
      variables = x.variables;
      of_block = (z.same_trees _ _ _ _ _ _).0 x.of_block;
      of_variables = x.of_variables;
      of_procedures = x.of_procedures;
      of_locals = x.of_locals;
      of_order = x.of_order;
    }

pub modules_alike : ModulesAreAlike
modules_alike home tables exported of_definition m exports p types end last b r q t = (
  means_as home tables exported of_definition m exports p types end last b r q t,
  means_as home tables exported
      of_definition m exports p types last end b q r t,
)
