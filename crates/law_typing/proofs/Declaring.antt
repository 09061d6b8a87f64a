-- What a scope knows of the names of a block.
use Rattle.std.proofs.Common.{◌≡◌, ℕ, Bool, true, false, List, [], ◌∷◌, Option, Some, Result, Err, ◌⊎◌, inl, inr, sym, ap, subst, ◌∙◌, Ok, refl}
use Rattle.std.specs.Prelude.{slice_get, pos, ◌&&◌, ◌==◌}
use Rattle.check_stmt_parts.specs.Control.{is_own}
use Rattle.m2_rule.specs.declared.breach.Breach.{Breach}
use Rattle.m2_tree.specs.declared.pos.Pos.{Pos}
use Rattle.m2_tree.specs.declared.name.Ident.{Ident}
use Rattle.typed_tree.specs.declared.meaning.Meaning.{Meaning}
use Rattle.typed_tree.specs.declared.meaning.Meaning.TheVariants as meaning
use Rattle.typed_tree.specs.declared.meaning.Procedure.{Procedure}
use Rattle.typed_tree.specs.declared.types.TypeNo.{TypeNo}
use Rattle.typed_tree.specs.declared.table.Table.{Table}
use Rattle.typed_tree.specs.declared.known_types.Types.{Types}
use Rattle.typed_tree.specs.Names.{find_name}
use Rattle.check_scope.specs.declared.known.Known.{Known}
use Rattle.check_scope.specs.declared.known.Known.TheVariants as known
use Rattle.check_scope.specs.declared.known.Origin.TheVariants.{Here}
use Rattle.check_type_expr.specs.Made.{enumeration_constant}
use Rattle.check_scope.specs.declared.meaningless.Meaningless.{Meaningless}
use Rattle.check_scope.specs.declared.meaningless.Meaningless.TheVariants as meaningless
use Rattle.check_scope.specs.declared.scope.Block.{Block}
use Rattle.check_scope.specs.declared.scope.OpenedRecord.{OpenedRecord}
use Rattle.check_scope.specs.declared.scope.Scope.{Scope}
use Rattle.check_scope.specs.Elaborated.{Gathers}
use Rattle.check_scope.specs.Scopes.{looked_up, known_outside, or_around, means_seen, means_as, means_or, open_field, is_free, is_begun}
use Rattle.check_const.specs.Denote.{exported_by}
use Rattle.check_block.specs.Headings.{standing_known}
use Rattle.check_block.specs.declared.heading.Standing.TheVariants as place
use Rattle.def_typing.specs.Things as things
use Rattle.def_typing.specs.Things.{Headless, Standing, Undeclared, Unknown}
use Rattle.def_typing.specs.Parts.{here, later, Named}
use Rattle.def_typing.specs.TypeExprs.{Member, member_stands}
use Rattle.def_typing.specs.Declarations as rules
use Rattle.def_typing.specs.Declarations.{Declaration, OfConstant, OfType, OfVariables, OfProcedure, names_of, Declares, AnyDeclares, IsFirst, at_first, later_on, Heads, Declared, IsThere, IsHeaded, IsNamed, nearest, farther, types_behind, is_variables, in_front_of, IsOwn, StandsFor, IsAdded, Means, AllStand, There, BrokenIn}
use Rattle.law_typing.specs.Judging.{Judges}
use Rattle.law_typing.proofs.Enumerating.{member_known}
use Rattle.law_typing.specs.Exact.{is_own_variable, KnowsOwn, Sees, sees, sees_nothing, Exports, Knows, Repeats, of_heading, of_declaration, AreOnce}

-- ---- the first declaration of a name

pub any_named : {n : List ℕ} {d : Declared} {before front : List Declared} → IsNamed n d before front → IsThere front n
any_named {d = d} (nearest h c) = (d.what, here, h)
any_named (farther i) = let q = any_named i in (q.0, later q.1, q.2)

pub one_named : (P : List Declared → Declared → Type 0) {n : List ℕ} {d c : Declared}
    {before other front : List Declared} → IsNamed n d before front → IsNamed n c other front → P other c → P before d
one_named P (nearest h n) (nearest k m) p = p
one_named P (nearest h n) (farther i) p = absurd (n (any_named i))
one_named P (farther i) (nearest k m) p = absurd (m (any_named i))
one_named P (farther i) (farther k) p = one_named P i k p

pub any_first : {n : List ℕ} {d : Declaration} {block : List Declaration} → IsFirst n d block → AnyDeclares block n
any_first {d = d} (at_first h) = (d, here, h)
any_first (later_on c i) = let q = any_first i in (q.0, later q.1, q.2)

pub one_first : (P : Declaration → Type 0) {n : List ℕ} {d c : Declaration} {block : List Declaration}
    → IsFirst n d block → IsFirst n c block → P c → P d
one_first P (at_first h) (at_first k) p = p
one_first P (at_first h) (later_on n k) p = absurd (n h)
one_first P (later_on n i) (at_first k) p = absurd (n k)
one_first P (later_on n i) (later_on m k) p = one_first P i k p

one_member : {x y : Member} → ◌≡◌ {A = Option Member} (Some x) (Some y) → x ≡ y
one_member e = cc

pub clash : {b : Bool} → b ≡ true → b ≡ false → ⊥
clash e f = let z : true ≡ false = sym e ∙ f in absurd cc

-- a heading is a declaration of its name
pub no_heads : (d : Declaration) → in_front_of d ≡ Undeclared → (n : List ℕ) → Heads d n → ⊥
no_heads (OfConstant c) e n h = h
no_heads (OfType d) e n h = h
no_heads (OfVariables v) e n h = h
no_heads (OfProcedure p) e n h = absurd cc

-- how a name is marked before its declaration
abbrev pub mark_of : {T : Type 0} → Declaration → Known T
mark_of (OfProcedure h) = known.Ahead
mark_of other = known.Later

module _ (g : Gathers) (j : Judges g) (exports : ℕ → Ident → Standing) (outside : Ident → Standing)
    (start : Scope g.Reported) (taken : List ℕ → Bool) (awaited : List ℕ → Option TypeNo) (nested : Bool)
    (block : List Declaration) where
  abbrev Behind : List Declared → Ident → Standing → Type 0
  Behind = StandsFor start.types exports outside taken awaited nested block

  abbrev Meant : List Declared → Declared → Standing → Type 0
  Meant = Means start.types exports outside taken awaited nested block

  abbrev pub Added : List Declared → Declared → Type 0
  Added = IsAdded start.types exports outside taken awaited nested block

  abbrev pub All : List Declared → (Ident → Standing) → Type 0
  All = AllStand start.types exports outside taken awaited nested block

  -- what may be repeated behind these declarations
  abbrev pub Elsewhere : List Declared → Breach → Type 0
  Elsewhere front f = Repeats g j outside start f
      ⊎ BrokenIn start.types exports outside taken awaited nested block front f

  -- what is known of a declaration
  pub record Saying (before : List Declared) (d : Declared) (k : Known g.Reported) : Type 0 where
    pub stands : (s : Standing) × Meant before d s
    pub seen : (s : Standing) → Meant before d s → (at : Pos) → Sees g j at s (means_seen g at k true)
    pub heading : (at : Pos) (b : Bool) (r : g.Reported) → means_seen g at k true ≡ Err (meaningless.Headless b r)
        → (f : Breach) → j.Among r f → Elsewhere (d ∷ before) f
    pub broken : (at : Pos) (r : g.Reported) → means_seen g at k true ≡ Err (meaningless.Broken r) → (f : Breach)
        → j.Among r f → Elsewhere (d ∷ before) f
    pub own : (at : Pos) (m : Meaning) → means_seen g at k true ≡ Ok m → is_own_variable start m ≡ is_variables d.what
    pub not_free : is_free (Some k) ≡ false
    pub not_begun : is_begun (Some k) ≡ false
    pub settled : standing_known k ≡ place.Taken

  -- what the scope has of a name, if these declarations stand in front and these names are there
  pub data KnownAs (front : List Declared) (Th : List ℕ → Type 0) (n : List ℕ) : Option (Known g.Reported)
      → Type 0 where
    outer : {k : Option (Known g.Reported)} → (taken n ≡ false → AnyDeclares block n → ⊥)
        → ((t : TypeNo) → awaited n ≡ Some t → IsHeaded front n → ⊥) → k ≡ find_name n start.own → KnownAs front Th n k
    headed : (p : Procedure) → taken n ≡ true → IsHeaded front n
        → Some (known.Declared Here (Ok (meaning.Procedure p))) ≡ find_name n start.own
        → KnownAs front Th n (Some (known.Headed (Ok (meaning.Procedure p))))
    ahead : (d : Declaration) → taken n ≡ false → IsFirst n d block → (IsThere front n → ⊥) → (Th n → ⊥)
        → KnownAs front Th n (Some (mark_of d))
    reading : (d : Declaration) → taken n ≡ false → IsFirst n d block → (IsThere front n → ⊥) → Th n
        → in_front_of d ≡ Undeclared → KnownAs front Th n (Some known.Begun)
    behind : {d : Declared} {before : List Declared} (k : Known g.Reported) → taken n ≡ false → IsNamed n d before front
        → Named (names_of d.what) n → Saying before d k → KnownAs front Th n (Some k)
    a_member : {d : Declared} {before : List Declared} {e : Member} → taken n ≡ false → IsNamed n d before front
        → (Named (names_of d.what) n → ⊥) → Added before d → find_name n d.adds.brings ≡ Some e
        → KnownAs front Th n (Some (member_known e))

  -- the scope is that at the start but for names of its own, types, variables and procedures
  pub record Same (known_types : Types) (s : Scope g.Reported) : Type 0 where
    pub withs : s.withs ≡ []
    pub outer : s.outer ≡ start.outer
    pub types : s.types ≡ known_types
    pub tables : s.tables ≡ start.tables
    pub level : s.level ≡ start.level

  -- the scope between these declarations and those that are left
  pub record KnowsBlock (front : List Declared) (rest : List Declaration) (Th : List ℕ → Type 0)
      (s : Scope g.Reported) : Type 0 where
    pub same : Same (types_behind start.types front) s
    pub within : (n : List ℕ) → IsThere front n → AnyDeclares block n
    pub in_block : (n : List ℕ) → AnyDeclares rest n → AnyDeclares block n
    pub left : (n : List ℕ) (d : Declaration) → IsFirst n d block → (IsThere front n → ⊥) → IsFirst n d rest
    pub includes : (n : List ℕ) → There start.types exports outside taken awaited nested block front n → Th n
    pub own : (n : List ℕ) → KnownAs front Th n (find_name n s.own)
    pub once : AreOnce start.own → AreOnce s.own

  in_more : {n : List ℕ} {d : Declared} {before front : List Declared} {f : Breach} → IsNamed n d before front
      → Elsewhere (d ∷ before) f → Elsewhere front f
  in_more i (inl o) = inl o
  in_more (nearest h c) (inr b) = inr b
  in_more (farther i) (inr b) = elim (in_more i (inr b)) [ inl o ↦ inl o | inr c ↦ inr (rules.in_front c) ]

  front_known : (d : Declaration) → in_front_of d ≡ Unknown → ⊥
  front_known (OfConstant c) e = absurd cc
  front_known (OfType d) e = absurd cc
  front_known (OfVariables v) e = absurd cc
  front_known (OfProcedure h) e = absurd cc

  module _ (knows : Knows g j outside exports start) (no_withs : start.withs ≡ []) where
    abbrev looked : Option (Known g.Reported) → Ident → Result Meaning (Meaningless g.Reported)
    looked k name = means_as g name.pos (or_around k (known_outside name.name start.outer))

    looked_same : {types : Types} {s : Scope g.Reported} → Same types s → (name : Ident)
        → looked_up g s name ≡ looked (find_name name.name s.own) name
    looked_same {s = s} e name =
        ap (λ (ws : List OpenedRecord). means_or (open_field s.types name.name ws)
        (means_as g name.pos (or_around (find_name name.name s.own) (known_outside name.name s.outer)))) e.withs
        ∙ ap (λ (outer : List (Block g.Reported)). means_as g name.pos
        (or_around (find_name name.name s.own) (known_outside name.name outer))) e.outer

    looked_first : (name : Ident) → looked_up g start name ≡ looked (find_name name.name start.own) name
    looked_first name = ap (λ (ws : List OpenedRecord). means_or (open_field start.types name.name ws)
        (means_as g name.pos (or_around (find_name name.name start.own) (known_outside name.name start.outer))))
        no_withs

    outer_seen : (name : Ident) {k : Option (Known g.Reported)} → k ≡ find_name name.name start.own
        → Sees g j name.pos (outside name) (looked k name)
    outer_seen name e = subst (λ (k : Option (Known g.Reported)). Sees g j name.pos (outside name) (looked k name))
        (sym e) (subst (λ (r : Result Meaning (Meaningless g.Reported)). Sees g j name.pos (outside name) r)
        (looked_first name) (knows.of_names name))

    mark_seen : (name : Ident) (d : Declaration) → Sees g j name.pos (in_front_of d) (looked (Some (mark_of d)) name)
    mark_seen name (OfConstant c) = sees_nothing
    mark_seen name (OfType d) = sees_nothing
    mark_seen name (OfVariables v) = sees_nothing
    mark_seen name (OfProcedure h) = sees meaning.Ahead

    mark_heading : (name : Ident) (d : Declaration) {b : Bool} {r : g.Reported}
        → looked (Some (mark_of d)) name ≡ Err (meaningless.Headless b r) → ⊥
    mark_heading name (OfConstant c) e = absurd cc
    mark_heading name (OfType d) e = absurd cc
    mark_heading name (OfVariables v) e = absurd cc
    mark_heading name (OfProcedure h) e = absurd cc

    module _ (front : List Declared) (Th : List ℕ → Type 0)
        (within : (n : List ℕ) → IsThere front n → AnyDeclares block n) (name : Ident) where
      abbrev K : Option (Known g.Reported) → Type 0
      K k = KnownAs front Th name.name k

      seen_known : {k : Option (Known g.Reported)} {s : Standing} → K k → Behind front name s
          → Sees g j name.pos s (looked k name)
      seen_known (outer c w e) (rules.declared t i o m) = absurd (c t (within name.name (any_named i)))
      seen_known (outer c w e) (rules.enumerated t i o a m) = absurd (c t (within name.name (any_named i)))
      seen_known (outer c w e) (rules.not_yet t i n) = absurd (c t (any_first i))
      seen_known (outer c w e) (rules.from_outside d) = outer_seen name e
      seen_known (headed p y w e) (rules.declared t i o m) = absurd (clash y t)
      seen_known (headed p y w e) (rules.enumerated t i o a m) = absurd (clash y t)
      seen_known (headed p y w e) (rules.not_yet t i n) = absurd (clash y t)
      seen_known (headed p y w e) (rules.from_outside d) = outer_seen name e
      seen_known (ahead d t i n b) (rules.declared u k o m) = absurd (n (any_named k))
      seen_known (ahead d t i n b) (rules.enumerated u k o a m) = absurd (n (any_named k))
      seen_known (ahead d t i n b) (rules.not_yet {d = c} u k m) =
          one_first (λ (x : Declaration). Sees g j name.pos (in_front_of c) (looked (Some (mark_of x)) name)) i k
          (mark_seen name c)
      seen_known (ahead d t i n b) (rules.from_outside c) = absurd (c t (any_first i))
      seen_known (reading d t i n b e) (rules.declared u k o m) = absurd (n (any_named k))
      seen_known (reading d t i n b e) (rules.enumerated u k o a m) = absurd (n (any_named k))
      seen_known (reading d t i n b e) (rules.not_yet {d = c} u k m) =
          subst (λ (s : Standing). Sees g j name.pos s (looked (Some known.Begun) name))
          (sym (one_first (λ (x : Declaration). in_front_of x ≡ Undeclared) k i e)) sees_nothing
      seen_known (reading d t i n b e) (rules.from_outside c) = absurd (c t (any_first i))
      seen_known {s = st} (behind k t i o s) (rules.declared u q w m) =
          s.seen st (one_named (λ b d. Meant b d st) i q m) name.pos
      seen_known (behind {d = d} k t i o s) (rules.enumerated u q w a m) =
          absurd (one_named (λ b c. Named (names_of c.what) name.name → ⊥) i q w o)
      seen_known (behind k t i o s) (rules.not_yet u q n) = absurd (n (any_named i))
      seen_known (behind k t i o s) (rules.from_outside c) = absurd (c t (within name.name (any_named i)))
      seen_known (a_member t i o a e) (rules.declared u q w m) =
          absurd (o (one_named (λ b c. Named (names_of c.what) name.name) i q w))
      seen_known (a_member {e = x} t i o a e) (rules.enumerated {e = y} u q w b m) =
          subst (λ (z : Member). Sees g j name.pos (member_stands z) (looked (Some (member_known x)) name))
          (one_member (sym e ∙ one_named (λ b c. find_name name.name c.adds.brings ≡ Some y) i q m))
          (sees (enumeration_constant x.0 (pos x.1)))
      seen_known (a_member t i o a e) (rules.not_yet u q n) = absurd (n (any_named i))
      seen_known (a_member t i o a e) (rules.from_outside c) = absurd (c t (within name.name (any_named i)))

      pub stands_known : {k : Option (Known g.Reported)} → K k → (s : Standing) × Behind front name s
      stands_known (outer c w e) = (outside name, rules.from_outside c)
      stands_known (headed p y w e) = (outside name, rules.from_outside (λ t a. clash y t))
      stands_known (ahead d t i n b) = (in_front_of d, rules.not_yet t i n)
      stands_known (reading d t i n b e) = (in_front_of d, rules.not_yet t i n)
      stands_known (behind k t i o s) = (s.stands.0, rules.declared t i o s.stands.1)
      stands_known (a_member {e = x} t i o a e) = (member_stands x, rules.enumerated t i o a e)

      -- what is repeated

      heading_repeats : {k : Option (Known g.Reported)} {s : Standing} {b : Bool} {r : g.Reported} {f : Breach} → K k
          → Behind front name s → s ≡ things.Known (Headless b) → looked k name ≡ Err (meaningless.Headless b r)
          → j.Among r f → Elsewhere front f
      heading_repeats (outer c w e) (rules.from_outside d) q l m =
          inl (of_heading q (looked_first name ∙ ap (λ (k : Option (Known g.Reported)). looked k name) (sym e) ∙ l) m)
      heading_repeats (outer c w e) (rules.declared t i o z) q l m = absurd (c t (within name.name (any_named i)))
      heading_repeats (outer c w e) (rules.enumerated t i o a z) q l m = absurd (c t (within name.name (any_named i)))
      heading_repeats (outer c w e) (rules.not_yet t i n) q l m = absurd (c t (any_first i))
      heading_repeats (headed p y w e) z q l m = absurd cc
      heading_repeats (ahead d t i n b) z q l m = absurd (mark_heading name d l)
      heading_repeats (reading d t i n b e) z q l m = absurd cc
      heading_repeats {b = b} {r = r} {f = f} (behind k t i o s) z q l m = in_more i (s.heading name.pos b r l f m)
      heading_repeats (a_member t i o a e) z q l m = absurd cc

      broken_repeats : {k : Option (Known g.Reported)} {s : Standing} {r : g.Reported} {f : Breach} → K k
          → Behind front name s → s ≡ Unknown → looked k name ≡ Err (meaningless.Broken r) → j.Among r f
          → Elsewhere front f
      broken_repeats (outer c w e) (rules.from_outside d) q l m =
          inl (of_declaration q (looked_first name ∙ ap (λ (k : Option (Known g.Reported)). looked k name) (sym e) ∙ l)
          m)
      broken_repeats (outer c w e) (rules.declared t i o z) q l m = absurd (c t (within name.name (any_named i)))
      broken_repeats (outer c w e) (rules.enumerated t i o a z) q l m = absurd (c t (within name.name (any_named i)))
      broken_repeats (outer c w e) (rules.not_yet t i n) q l m = absurd (c t (any_first i))
      broken_repeats (headed p y w e) z q l m = absurd cc
      broken_repeats (ahead d t i n b) (rules.declared u k o z) q l m = absurd (n (any_named k))
      broken_repeats (ahead d t i n b) (rules.enumerated u k o a z) q l m = absurd (n (any_named k))
      broken_repeats (ahead d t i n b) (rules.not_yet {d = c} u k z) q l m = absurd (front_known c q)
      broken_repeats (ahead d t i n b) (rules.from_outside c) q l m = absurd (c t (any_first i))
      broken_repeats (reading d t i n b e) (rules.declared u k o z) q l m = absurd (n (any_named k))
      broken_repeats (reading d t i n b e) (rules.enumerated u k o a z) q l m = absurd (n (any_named k))
      broken_repeats (reading d t i n b e) (rules.not_yet {d = c} u k z) q l m = absurd (front_known c q)
      broken_repeats (reading d t i n b e) (rules.from_outside c) q l m = absurd (c t (any_first i))
      broken_repeats {r = r} {f = f} (behind k t i o s) z q l m = in_more i (s.broken name.pos r l f m)
      broken_repeats (a_member t i o a e) z q l m = absurd cc

    -- ---- variables of its own

    pub home_same : (front : List Declared) → (types_behind start.types front).home ≡ start.types.home
    home_same [] = refl
    home_same (d ∷ front) = home_same front

    own_same : (s : Scope g.Reported) → s.types.home ≡ start.types.home → s.level ≡ start.level → (m : Meaning)
        → is_own_variable s m ≡ is_own_variable start m
    own_same s h l (meaning.Constant v) = refl
    own_same s h l (meaning.Type t n) = refl
    own_same s h l (meaning.Variable v) = ap (λ (n : ℕ). v.home == n) h
    own_same s h l (meaning.Local v) = ap (λ (n : ℕ). is_own v.kind && (v.level == n)) l
    own_same s h l (meaning.Field f) = refl
    own_same s h l (meaning.Procedure p) = refl
    own_same s h l (meaning.LocalProcedure p) = refl
    own_same s h l meaning.Ahead = refl
    own_same s h l (meaning.Standard f) = refl
    own_same s h l (meaning.Module k) = refl

    module _ (outers : Ident → Bool) (owns : KnowsOwn g j outers start) (front : List Declared) (Th : List ℕ → Type 0)
        (within : (n : List ℕ) → IsThere front n → AnyDeclares block n) (name : Ident) where
      abbrev Own : Bool → Type 0
      Own b = IsOwn start.types exports outside taken awaited nested block outers front name b

      mark_own : (d : Declaration) {m : Meaning} → looked (Some (mark_of d)) name ≡ Ok m
          → is_own_variable start m ≡ false
      mark_own (OfConstant c) e = absurd cc
      mark_own (OfType d) e = absurd cc
      mark_own (OfVariables v) e = absurd cc
      mark_own (OfProcedure h) e = ap_ok e
        where
          ap_ok : {m : Meaning} → ◌≡◌ {A = Result Meaning (Meaningless g.Reported)} (Ok meaning.Ahead) (Ok m)
              → is_own_variable start m ≡ false
          ap_ok {m = m} q = let same : meaning.Ahead ≡ m = cc in
              subst (λ (m : Meaning). is_own_variable start m ≡ false) same refl

      member_own : (x : Member) {m : Meaning} → looked (Some (member_known x)) name ≡ Ok m
          → is_own_variable start m ≡ false
      member_own x {m = m} q = let same : enumeration_constant x.0 (pos x.1) ≡ m = cc in
          subst (λ (m : Meaning). is_own_variable start m ≡ false) same refl

      own_known : {k : Option (Known g.Reported)} {b : Bool} {m : Meaning} → KnownAs front Th name.name k → Own b
          → looked k name ≡ Ok m → b ≡ is_own_variable start m
      own_known {m = m} (outer c w e) (rules.of_outside d) q =
          owns name m (looked_first name ∙ ap (λ (k : Option (Known g.Reported)). looked k name) (sym e) ∙ q)
      own_known (outer c w e) (rules.of_block t i o) q = absurd (c t (within name.name (any_named i)))
      own_known (outer c w e) (rules.of_enumeration t i o) q = absurd (c t (within name.name (any_named i)))
      own_known (outer c w e) (rules.of_none t a n) q = absurd (c t a)
      own_known {m = m} (headed p y w e) (rules.of_outside d) q =
          owns name m (looked_first name ∙ ap (λ (k : Option (Known g.Reported)). looked k name) (sym e) ∙ q)
      own_known (headed p y w e) (rules.of_block t i o) q = absurd (clash y t)
      own_known (headed p y w e) (rules.of_enumeration t i o) q = absurd (clash y t)
      own_known (headed p y w e) (rules.of_none t a n) q = absurd (clash y t)
      own_known (ahead d t i n b) (rules.of_block u k o) q = absurd (n (any_named k))
      own_known (ahead d t i n b) (rules.of_enumeration u k o) q = absurd (n (any_named k))
      own_known (ahead d t i n b) (rules.of_none u a c) q = sym (mark_own d q)
      own_known (ahead d t i n b) (rules.of_outside c) q = absurd (c t (any_first i))
      own_known (reading d t i n b e) z q = absurd cc
      own_known {m = m} (behind k t i o s) (rules.of_block {d = c} u p w) q =
          sym (s.own name.pos m q ∙ one_named (λ b x. is_variables x.what ≡ is_variables c.what) i p refl)
      own_known (behind k t i o s) (rules.of_enumeration u p w) q =
          absurd (one_named (λ b c. Named (names_of c.what) name.name → ⊥) i p w o)
      own_known (behind k t i o s) (rules.of_none u a c) q = absurd (c (any_named i))
      own_known (behind k t i o s) (rules.of_outside c) q = absurd (c t (within name.name (any_named i)))
      own_known (a_member t i o a e) (rules.of_block u p w) q =
          absurd (o (one_named (λ b c. Named (names_of c.what) name.name) i p w))
      own_known (a_member {e = x} t i o a e) (rules.of_enumeration u p w) q = sym (member_own x q)
      own_known (a_member t i o a e) (rules.of_none u b c) q = absurd (c (any_named i))
      own_known (a_member t i o a e) (rules.of_outside c) q = absurd (c t (within name.name (any_named i)))

      own_there : {k : Option (Known g.Reported)} → KnownAs front Th name.name k → (b : Bool) × Own b
      own_there (outer c w e) = (outers name, rules.of_outside c)
      own_there (headed p y w e) = (outers name, rules.of_outside (λ t a. clash y t))
      own_there (ahead d t i n b) = (false, rules.of_none t (any_first i) n)
      own_there (reading d t i n b e) = (false, rules.of_none t (any_first i) n)
      own_there (behind k t i o s) = (_, rules.of_block t i o)
      own_there (a_member t i o a e) = (false, rules.of_enumeration t i o)

    module _ {front : List Declared} {rest : List Declaration} {Th : List ℕ → Type 0} {s : Scope g.Reported}
        (b : KnowsBlock front rest Th s) where
      pub knowing : {names : Ident → Standing} → All front names → Knows g j names exports s
      knowing {names = names} all = record {
        of_names = λ name. subst (λ (r : Result Meaning (Meaningless g.Reported)). Sees g j name.pos (names name) r)
            (sym (looked_same b.same name)) (seen_known front Th b.within name (b.own name.name) (all name));
        of_modules = λ k name. subst (λ (ts : List Table). Exports g j (exports k name)
            (exported_by name.name (slice_get ts k))) (sym b.same.tables) (knows.of_modules k name);
      }

      pub repeating : {names : Ident → Standing} → All front names → (f : Breach) → Repeats g j names s f
          → Elsewhere front f
      repeating all f (of_heading {name = name} e q m) =
          heading_repeats front Th b.within name (b.own name.name) (all name) e (sym (looked_same b.same name) ∙ q) m
      repeating all f (of_declaration {name = name} e q m) =
          broken_repeats front Th b.within name (b.own name.name) (all name) e (sym (looked_same b.same name) ∙ q) m

      pub owning : (outers : Ident → Bool) → KnowsOwn g j outers start → (own : Ident → Bool)
          → ((name : Ident) → IsOwn start.types exports outside taken awaited nested block outers front name (own name))
          → KnowsOwn g j own s
      owning outers owns own all name m q = own_known outers owns front Th b.within name (b.own name.name) (all name)
          (sym (looked_same b.same name) ∙ q) ∙ sym
          (own_same s (ap (λ (t : Types). t.home) b.same.types ∙ home_same front) b.same.level m)

      pub some_own : (outers : Ident → Bool) → KnowsOwn g j outers start → (own : Ident → Bool)
          × ((name : Ident) → IsOwn start.types exports outside taken awaited nested block outers front name (own name))
      some_own outers owns = (
        (λ name. (own_there outers owns front Th b.within name (b.own name.name)).0),
        (λ name. (own_there outers owns front Th b.within name (b.own name.name)).1),
      )

      abbrev pub standings : Ident → Standing
      standings name = (stands_known front Th b.within name (b.own name.name)).0

      pub all_stand : All front standings
      all_stand name = (stands_known front Th b.within name (b.own name.name)).1
