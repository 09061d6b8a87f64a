-- What is known of the names around a procedure, inside it.
use Rattle.std.proofs.Common.{◌≡◌, ℕ, Bool, true, false, List, [], ◌∷◌, ◌++◌, Option, Some, None, Result, Ok, Err, ◌⊎◌, inl, inr, refl, sym, ap, subst, ◌∙◌}
use Rattle.std.specs.Prelude.{nat_lt}
use Rattle.std.specs.List.{fold}
use Rattle.std.specs.Option.{option_map}
use Rattle.m2_rule.specs.declared.breach.Breach.{Breach}
use Rattle.m2_rule.specs.declared.rule.Rule.TheVariants as rule
use Rattle.m2_tree.specs.declared.pos.Pos.{Pos}
use Rattle.m2_tree.specs.declared.name.Ident.{Ident}
use Rattle.typed_tree.specs.declared.meaning.LocalKind.{LocalKind}
use Rattle.typed_tree.specs.declared.meaning.LocalKind.TheVariants as local
use Rattle.typed_tree.specs.declared.meaning.Meaning.{Meaning}
use Rattle.typed_tree.specs.declared.meaning.Meaning.TheVariants as meaning
use Rattle.typed_tree.specs.declared.types.TypeNo.{TypeNo}
use Rattle.typed_tree.specs.Names.{find_name}
use Rattle.check_scope.specs.declared.known.Known.{Known}
use Rattle.check_scope.specs.declared.known.Known.TheVariants.{Later, Ahead, Begun, Headed, Declared}
use Rattle.check_scope.specs.declared.meaningless.Meaningless.{Meaningless}
use Rattle.check_scope.specs.declared.meaningless.Meaningless.TheVariants as meaningless
use Rattle.check_scope.specs.declared.scope.Block.{Block as Around}
use Rattle.check_scope.specs.declared.scope.OpenedRecord.{OpenedRecord}
use Rattle.check_scope.specs.declared.scope.Scope.{Scope}
use Rattle.check_scope.specs.Elaborated.{Gathers}
use Rattle.check_scope.specs.Scopes.{Sight, in_block, seen_at, nearer, or_outside, or_around, known_outside, means_seen, means_as, means_or, open_field, looked_up}
use Rattle.check_scope.specs.Inwards.{inwards}
use Rattle.def_typing.specs.Operators.{◌!◌}
use Rattle.def_typing.specs.Things as things
use Rattle.def_typing.specs.Things.{Headless, Standing, Undeclared, Unknown}
use Rattle.def_typing.specs.Declarations.{Declaration, AnyDeclares}
use Rattle.def_typing.specs.Bodies as bodies
use Rattle.def_typing.specs.Bodies.{IsProcedure, Sees as Sees_in}
use Rattle.law_typing.specs.Judging.{Judges}
use Rattle.law_typing.specs.Exact.{of_local, standing, Sees, sees, sees_nothing, sees_headless, sees_unknown, Knows, Repeats, of_heading, of_declaration}
use Rattle.law_typing.proofs.Naming.{index, place_found, place_none, stands_at}
use Rattle.law_rules.proofs.BodiesKeeping.{IsProc, FitsMeaning, Fits}

fold_last : {A B : Type 0} (f : A → B → A) (z : A) (xs : List B) (x : B) → fold f z (xs ++ x ∷ []) ≡ f (fold f z xs) x
fold_last f z [] x = refl
fold_last f z (y ∷ xs) x = fold_last f (f z y) xs x

-- ---- where a name is looked for

module _ (g : Gathers) (w : Scope g.Reported) (seen : ℕ) (no_withs : w.withs ≡ []) where
  abbrev pub inner : Scope g.Reported
  inner = inwards w seen

  abbrev pub around : Around g.Reported
  around = record { names = w.own; seen = seen }

  abbrev pub meant : Pos → Option (Known g.Reported) → Sight g.Reported → Result Meaning (Meaningless g.Reported)
  meant at k far = means_as g at (or_around k far)

  pub looked_around : (name : Ident) → looked_up g w name
      ≡ means_as g name.pos (or_around (find_name name.name w.own) (known_outside name.name w.outer))
  looked_around name = ap (λ (ws : List OpenedRecord). means_or (open_field w.types name.name ws)
      (means_as g name.pos (or_around (find_name name.name w.own) (known_outside name.name w.outer)))) no_withs

  looked_inner : (name : Ident) → looked_up g inner name
      ≡ means_as g name.pos (or_outside (in_block name.name around) (known_outside name.name w.outer))
  looked_inner name = ap (λ (ws : List OpenedRecord). means_or (open_field w.types name.name ws)
      (means_as g name.pos (known_outside name.name (w.outer ++ around ∷ [])))) no_withs
      ∙ ap (λ (far : Sight g.Reported). means_as g name.pos far) (fold_last (nearer name.name) None w.outer around)

  block_none : (n : List ℕ) → find_name n w.own ≡ None → in_block n around ≡ None
  block_none n e = ap (λ (p : Option ℕ). seen_at seen w.own p) (place_none n w.own e)

  block_some : (n : List ℕ) (k : Known g.Reported) → find_name n w.own ≡ Some k
      → in_block n around ≡ Some (k, nat_lt (index n w.own) seen)
  block_some n k e = let s = stands_at n w.own k e in
      ap (λ (p : Option ℕ). seen_at seen w.own p) (place_found n w.own k e)
      ∙ ap (λ (x : Option (List ℕ × Known g.Reported)). option_map
      (λ (e : List ℕ × Known g.Reported). (e.1, nat_lt (index n w.own) seen)) x) s.1

  pub inner_none : (name : Ident) → find_name name.name w.own ≡ None → looked_up g inner name ≡ looked_up g w name
  inner_none name e = looked_inner name ∙ ap
      (λ (b : Sight g.Reported). means_as g name.pos (or_outside b (known_outside name.name w.outer)))
      (block_none name.name e)
      ∙ ap (λ (k : Option (Known g.Reported)). meant name.pos k (known_outside name.name w.outer)) (sym e)
      ∙ sym (looked_around name)

  pub around_some : (name : Ident) (k : Known g.Reported) → find_name name.name w.own ≡ Some k
      → looked_up g w name ≡ means_seen g name.pos k true
  around_some name k e = looked_around name
      ∙ ap (λ (k : Option (Known g.Reported)). meant name.pos k (known_outside name.name w.outer)) e

  pub inner_some : (name : Ident) (k : Known g.Reported) (b : Bool) → find_name name.name w.own ≡ Some k
      → nat_lt (index name.name w.own) seen ≡ b → looked_up g inner name ≡ means_seen g name.pos k b
  inner_some name k b e q = looked_inner name
      ∙ ap (λ (b : Sight g.Reported). means_as g name.pos (or_outside b (known_outside name.name w.outer)))
      (block_some name.name k e)
      ∙ ap (λ (b : Bool). means_seen g name.pos k b) q

-- ---- standings of what is looked up

module _ (g : Gathers) (j : Judges g) where
  same_ok : {m n : Meaning} → ◌≡◌ {A = Result Meaning (Meaningless g.Reported)} (Ok m) (Ok n) → m ≡ n
  same_ok e = cc

  pub sees_ok : {at : Pos} {s : Standing} {r : Result Meaning (Meaningless g.Reported)} (m : Meaning) → Sees g j at s r
      → r ≡ Ok m → s ≡ standing m
  sees_ok m (sees n) e = ap standing (same_ok e)
  sees_ok m sees_nothing e = absurd cc
  sees_ok m (sees_headless b r) e = absurd cc
  sees_ok m (sees_unknown r) e = absurd cc

  same_nested : {b c : Bool} {r q : g.Reported}
      → ◌≡◌ {A = Result Meaning (Meaningless g.Reported)} (Err (meaningless.Headless b r))
      (Err (meaningless.Headless c q)) → b ≡ c
  same_nested e = cc

  pub sees_headed : {at : Pos} {s : Standing} {r : Result Meaning (Meaningless g.Reported)} {b : Bool} {q : g.Reported}
      → Sees g j at s r → r ≡ Err (meaningless.Headless b q) → s ≡ things.Known (Headless b)
  sees_headed (sees n) e = absurd cc
  sees_headed sees_nothing e = absurd cc
  sees_headed (sees_headless c r) e = ap (λ (x : Bool). things.Known (Headless x)) (same_nested e)
  sees_headed (sees_unknown r) e = absurd cc

  -- what stands for nothing that is known
  pub sees_broken : {at : Pos} {s : Standing} {r : Result Meaning (Meaningless g.Reported)} {q : g.Reported}
      → Sees g j at s r → r ≡ Err (meaningless.Broken q) → (s ≡ Undeclared) ⊎ (s ≡ Unknown)
  sees_broken (sees n) e = absurd cc
  sees_broken sees_nothing e = inl refl
  sees_broken (sees_headless b r) e = absurd cc
  sees_broken (sees_unknown r) e = inr refl

  no_procedure : {s : Standing} → (s ≡ Undeclared) ⊎ (s ≡ Unknown) → IsProcedure s → ⊥
  no_procedure (inl e) p = elim (subst IsProcedure e p) [ ]
  no_procedure (inr e) p = elim (subst IsProcedure e p) [ ]

  -- two standings of one name
  pub sees_two : {at : Pos} {s t : Standing} {r q : Result Meaning (Meaningless g.Reported)} → Sees g j at s r
      → Sees g j at t q → r ≡ q → (s ≡ Undeclared → ⊥) → (t ≡ Undeclared → ⊥) → s ≡ t
  sees_two (sees m) z e a b = sym (sees_ok m z (sym e))
  sees_two sees_nothing z e a b = absurd (a refl)
  sees_two (sees_headless c r) z e a b = sym (sees_headed z (sym e))
  sees_two (sees_unknown r) z e a b = elim (sees_broken z (sym e)) [ inl q ↦ absurd (b q) | inr q ↦ sym q ]

  local_procedure : (t : TypeNo) (k : LocalKind) → IsProcedure (of_local t k) → ⊥
  local_procedure t local.Variable p = elim p [ ]
  local_procedure t local.Value p = elim p [ ]
  local_procedure t local.Alias p = elim p [ ]
  local_procedure t local.Open p = elim p [ ]

  fitting_procedure : (l : ℕ) (m : Meaning) → FitsMeaning l m → IsProcedure (standing m) → ⊥
  fitting_procedure l (meaning.Constant v) f p = elim p [ ]
  fitting_procedure l (meaning.Type t n) f p = elim p [ ]
  fitting_procedure l (meaning.Variable v) f p = elim p [ ]
  fitting_procedure l (meaning.Local v) f p = local_procedure v.of v.kind p
  fitting_procedure l (meaning.Field x) f p = elim p [ ]
  fitting_procedure l (meaning.Procedure x) f p = f
  fitting_procedure l (meaning.LocalProcedure x) f p = f
  fitting_procedure l meaning.Ahead f p = elim p [ ]
  fitting_procedure l (meaning.Standard x) f p = elim p [ ]
  fitting_procedure l (meaning.Module k) f p = elim p [ ]

  procedure_stands : (m : Meaning) → IsProc m → IsProcedure (standing m)
  procedure_stands (meaning.Constant v) f = absurd f
  procedure_stands (meaning.Type t n) f = absurd f
  procedure_stands (meaning.Variable v) f = absurd f
  procedure_stands (meaning.Local v) f = absurd f
  procedure_stands (meaning.Field x) f = absurd f
  procedure_stands (meaning.Procedure x) f = bodies.of_module
  procedure_stands (meaning.LocalProcedure x) f = bodies.of_procedure
  procedure_stands meaning.Ahead f = absurd f
  procedure_stands (meaning.Standard x) f = absurd f
  procedure_stands (meaning.Module k) f = absurd f

  -- ---- one name of a block, inside a procedure

  -- Front: the names in front of the procedure
  module _ (taken : List ℕ → Bool) (block : List Declaration) (Front : List ℕ → Type 0) (level : ℕ)
      (w : Scope g.Reported) (seen : ℕ) where
    -- what the scope has of a name behind the declarations, and where it stands
    pub data PlaceIs (n : List ℕ) : Option (Known g.Reported) → Type 0 where
      nowhere : (taken n ≡ false → AnyDeclares block n → ⊥) → PlaceIs n None
      stands_in_front : (k : Known g.Reported) → (taken n ≡ false → AnyDeclares block n → Front n)
          → nat_lt (index n w.own) seen ≡ true → PlaceIs n (Some k)
      stands_behind : (k : Known g.Reported) → taken n ≡ false → AnyDeclares block n → (Front n → ⊥)
          → nat_lt (index n w.own) seen ≡ false → Fits level k → PlaceIs n (Some k)

    module _ (exports : ℕ → Ident → Standing) (names : Ident → Standing) (knows : Knows g j names exports w)
        (no_withs : w.withs ≡ []) (places : (n : List ℕ) → PlaceIs n (find_name n w.own))
        (never_ahead : (name : Ident) → taken name.name ≡ false → AnyDeclares block name.name
        → names name ≡ things.Ahead → ⊥) where
      abbrev pub In : Scope g.Reported
      In = inner g w seen no_withs

      pub data Looked (name : Ident) : Type 0 where
        is_in_front : (taken name.name ≡ false → AnyDeclares block name.name → Front name.name)
            → looked_up g In name ≡ looked_up g w name → Looked name
        is_procedure : IsProcedure (names name) → looked_up g In name ≡ looked_up g w name → Looked name
        is_unseen : taken name.name ≡ false → AnyDeclares block name.name → (Front name.name → ⊥)
            → (IsProcedure (names name) → ⊥) → looked_up g In name
            ≡ Err (meaningless.Broken (g.one (name.pos ! rule.Undeclared))) → Looked name

      module _ (name : Ident) where
        -- a name that stands behind
        behind_by : (k : Known g.Reported) → find_name name.name w.own ≡ Some k → taken name.name ≡ false
            → AnyDeclares block name.name → (Front name.name → ⊥) → Fits level k
            → looked_up g In name ≡ means_seen g name.pos k false → looked_up g w name ≡ means_seen g name.pos k true
            → Looked name
        behind_by Later e t a c f i o = is_unseen t a c (no_procedure (sees_broken (knows.of_names name) o)) i
        behind_by Ahead e t a c f i o = absurd (never_ahead name t a (sees_ok meaning.Ahead (knows.of_names name) o))
        behind_by Begun e t a c f i o = is_unseen t a c (no_procedure (sees_broken (knows.of_names name) o)) i
        behind_by (Headed (Ok m)) e t a c f i o =
            is_procedure (subst IsProcedure (sym (sees_ok m (knows.of_names name) o)) (procedure_stands m f))
            (i ∙ sym o)
        behind_by (Headed (Err (meaningless.Headless b r))) e t a c f i o =
            is_procedure (subst IsProcedure (sym (sees_headed (knows.of_names name) o)) bodies.headless) (i ∙ sym o)
        behind_by (Headed (Err (meaningless.Broken r))) e t a c f i o = absurd f
        behind_by (Declared u (Ok m)) e t a c f i o =
            is_unseen t a c (λ p. fitting_procedure level m f (subst IsProcedure (sees_ok m (knows.of_names name) o) p))
            i
        behind_by (Declared u (Err r)) e t a c f i o =
            is_unseen t a c (no_procedure (sees_broken (knows.of_names name) o)) i

        looked_by : {k : Option (Known g.Reported)} → PlaceIs name.name k → find_name name.name w.own ≡ k → Looked name
        looked_by (nowhere c) e = is_in_front (λ t a. absurd (c t a)) (inner_none g w seen no_withs name e)
        looked_by (stands_in_front k h l) e =
            is_in_front h (inner_some g w seen no_withs name k true e l ∙ sym (around_some g w seen no_withs name k e))
        looked_by (stands_behind k t a c l f) e =
            behind_by k e t a c f (inner_some g w seen no_withs name k false e l)
            (around_some g w seen no_withs name k e)

        pub looked : Looked name
        looked = looked_by (places name.name) refl

        abbrev S : Standing → Type 0
        S = Sees_in taken block Front names name

        seen_by : Looked name → (s : Standing) × S s
        seen_by (is_in_front h e) = (names name, bodies.in_front h)
        seen_by (is_procedure p e) = (names name, bodies.a_procedure p)
        seen_by (is_unseen t a c n e) = (Undeclared, bodies.not_yet t a c n)

        abbrev Has : Standing → Type 0
        Has s = Sees g j name.pos s (looked_up g In name)

        as_around : looked_up g In name ≡ looked_up g w name → Has (names name)
        as_around e = subst (λ (r : Result Meaning (Meaningless g.Reported)). Sees g j name.pos (names name) r) (sym e)
            (knows.of_names name)

        has_by : Looked name → {s : Standing} → S s → Has s
        has_by (is_in_front h e) (bodies.in_front i) = as_around e
        has_by (is_in_front h e) (bodies.a_procedure p) = as_around e
        has_by (is_in_front h e) (bodies.not_yet t a c n) = absurd (c (h t a))
        has_by (is_procedure p e) (bodies.in_front i) = as_around e
        has_by (is_procedure p e) (bodies.a_procedure q) = as_around e
        has_by (is_procedure p e) (bodies.not_yet t a c n) = absurd (n p)
        has_by (is_unseen t a c n e) (bodies.in_front i) = absurd (c (i t a))
        has_by (is_unseen t a c n e) (bodies.a_procedure p) = absurd (n p)
        has_by (is_unseen t a c n e) (bodies.not_yet u b d m) =
            subst (λ (r : Result Meaning (Meaningless g.Reported)). Sees g j name.pos Undeclared r) (sym e) sees_nothing

        unknown_by : Looked name → {s : Standing} → S s → s ≡ Unknown → (names name ≡ Unknown)
            × (looked_up g In name ≡ looked_up g w name)
        unknown_by (is_in_front h e) (bodies.in_front i) q = (q, e)
        unknown_by (is_in_front h e) (bodies.a_procedure p) q = (q, e)
        unknown_by (is_in_front h e) (bodies.not_yet t a c n) q = absurd cc
        unknown_by (is_procedure p e) (bodies.in_front i) q = (q, e)
        unknown_by (is_procedure p e) (bodies.a_procedure r) q = (q, e)
        unknown_by (is_procedure p e) (bodies.not_yet t a c n) q = absurd cc
        unknown_by (is_unseen t a c n e) (bodies.in_front i) q = absurd (c (i t a))
        unknown_by (is_unseen t a c n e) (bodies.a_procedure p) q = absurd (n p)
        unknown_by (is_unseen t a c n e) (bodies.not_yet u b d m) q = absurd cc

        known_by : Looked name → (r : Result Meaning (Meaningless g.Reported)) → looked_up g In name ≡ r
            → ((q : g.Reported) → r ≡ Err (meaningless.Broken q) → ⊥) → looked_up g w name ≡ r
        known_by (is_in_front h e) r q n = sym e ∙ q
        known_by (is_procedure p e) r q n = sym e ∙ q
        known_by (is_unseen t a c m e) r q n = absurd (n (g.one (name.pos ! rule.Undeclared)) (sym q ∙ e))

      -- ---- all names

      pub seen_there : (sight : Ident → Standing) × ((name : Ident) → Sees_in taken block Front names name (sight name))
      seen_there = ((λ name. (seen_by name (looked name)).0), (λ name. (seen_by name (looked name)).1))

      module _ (sight : Ident → Standing) (all : (name : Ident) → Sees_in taken block Front names name (sight name))
        where
          pub seen_knows : Knows g j sight exports In
          seen_knows = record {
            of_names = λ name. has_by name (looked name) (all name);
            of_modules =
                λ k name. knows.of_modules k name;
          }

          pub seen_repeats : (f : Breach) → Repeats g j sight In f → Repeats g j names w f
          seen_repeats f (of_heading {name = name} {nested = b} {r = r} e q m) = let o =
              known_by name (looked name) (Err (meaningless.Headless b r)) q (λ z w. absurd cc) in
              of_heading (sees_headed (knows.of_names name) o) o m
          seen_repeats f (of_declaration {name = name} e q m) = let z = unknown_by name (looked name) (all name) e in
              of_declaration z.0 (sym z.1 ∙ q) m

          -- what is known inside is known around
          pub known_around : (name : Ident) (m : Meaning) → looked_up g In name ≡ Ok m → looked_up g w name ≡ Ok m
          known_around name m e = known_by name (looked name) (Ok m) e (λ z w. absurd cc)
