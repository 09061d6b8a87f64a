-- What names stand for behind all declarations of a block, and in front of one of them.
use Rattle.std.proofs.Common.{◌≡◌, ℕ, Bool, true, false, List, [], ◌∷◌, ◌++◌, Option, ◌⊎◌, inl, inr, refl, sym, ap, subst, ◌∙◌}
use Rattle.std.specs.Prelude.{map}
use Rattle.m2_rule.specs.declared.breach.Breach.{Breach}
use Rattle.m2_tree.specs.declared.name.Ident.{Ident}
use Rattle.m2_tree.specs.declared.decl.Heading.{Heading}
use Rattle.typed_tree.specs.declared.types.TypeNo.{TypeNo}
use Rattle.typed_tree.specs.declared.known_types.Types.{Types}
use Rattle.def_typing.specs.Things.{AValue, AVariable, AnOpenArray, AType, AProcedure, ANested, AStandard, AModule, Headless, Standing, Known, Ahead, Undeclared, NotExported, Unknown}
use Rattle.def_typing.specs.Parts.{Among, here, later, Named}
use Rattle.def_typing.specs.Declarations as rules
use Rattle.def_typing.specs.Declarations.{Declaration, OfConstant, OfType, OfVariables, OfProcedure, names_of, Declares, AnyDeclares, IsFirst, at_first, later_on, Declared as Resolved, in_order, IsThere, IsNamed, nearest, farther, types_behind, without, StandsFor, Means, IsAdded, AllAdded, AllStand, BrokenIn}
use Rattle.def_typing.specs.Bodies as bodies
use Rattle.def_typing.specs.Bodies.{IsProcedure}
use Rattle.law_typing.proofs.Entering.{named_split}
use Rattle.law_rules.proofs.Extending.{Extends, extends_then, extends_more}
use Rattle.law_typing.proofs.Declaring.{any_named, any_first, one_first}

-- ---- procedures

pub procedure_decided : (s : Standing) → (IsProcedure s) ⊎ (IsProcedure s → ⊥)
procedure_decided (Known (AValue k)) = inr (λ p. elim p [ ])
procedure_decided (Known (AVariable t)) = inr (λ p. elim p [ ])
procedure_decided (Known (AnOpenArray t)) = inr (λ p. elim p [ ])
procedure_decided (Known (AType t)) = inr (λ p. elim p [ ])
procedure_decided (Known (AProcedure t)) = inl bodies.of_module
procedure_decided (Known (ANested t)) = inl bodies.of_procedure
procedure_decided (Known (AStandard f)) = inr (λ p. elim p [ ])
procedure_decided (Known (AModule k)) = inr (λ p. elim p [ ])
procedure_decided (Known (Headless b)) = inl bodies.headless
procedure_decided Ahead = inr (λ p. elim p [ ])
procedure_decided Undeclared = inr (λ p. elim p [ ])
procedure_decided NotExported = inr (λ p. elim p [ ])
procedure_decided Unknown = inr (λ p. elim p [ ])

abbrev pub IsHeading : Declaration → Type 0
IsHeading (OfProcedure h) = Unit {0}
IsHeading other = ⊥

-- ---- lists

module _ {A : Type 0} where
  among_left : {x : A} {xs : List A} (ys : List A) → Among x xs → Among x (xs ++ ys)
  among_left ys here = here
  among_left ys (later m) = later (among_left ys m)

  among_right : {x : A} (xs : List A) {ys : List A} → Among x ys → Among x (xs ++ ys)
  among_right [] m = m
  among_right (y ∷ xs) m = later (among_right xs m)

  among_split : {x : A} (xs : List A) {ys : List A} → Among x (xs ++ ys) → Among x xs ⊎ Among x ys
  among_split [] m = inr m
  among_split (y ∷ xs) here = inl here
  among_split (y ∷ xs) (later m) = elim (among_split xs m) [ inl q ↦ inl (later q) | inr q ↦ inr q ]

  head_same : {x y : A} {xs ys : List A} → x ∷ xs ≡ y ∷ ys → x ≡ y
  head_same e = cc

  tail_same : {x y : A} {xs ys : List A} → x ∷ xs ≡ y ∷ ys → xs ≡ ys
  tail_same e = cc

  -- where the last one of a list stands in two parts of it
  abbrev Split : A → List A → A → List A → List A → Type 0
  Split x xs y ys zs = ((zs ≡ []) × (xs ≡ ys) × (x ≡ y)) ⊎ ((ws : List A) × (xs ≡ ys ++ y ∷ ws))

  split_first : (x : A) (xs : List A) (y : A) (zs : List A) → xs ++ x ∷ [] ≡ y ∷ zs → Split x xs y [] zs
  split_first x [] y zs e = inl (sym (tail_same e), refl, head_same e)
  split_first x (a ∷ xs) y zs e = inr (xs, ap (λ (b : A). b ∷ xs) (head_same e))

  none_left : (ys : List A) (y : A) (zs : List A) → [] ≡ ys ++ y ∷ zs → ⊥
  none_left [] y zs e = absurd cc
  none_left (b ∷ ys) y zs e = absurd cc

  split_more : {x y a b : A} {xs ys zs : List A} → a ≡ b → Split x xs y ys zs → Split x (a ∷ xs) y (b ∷ ys) zs
  split_more {a = a} {ys = ys} e (inl z) = inl (z.0, ap (λ (ws : List A). a ∷ ws) z.1 ∙ ap (λ (b : A). b ∷ ys) e, z.2)
  split_more {y = y} {a = a} {ys = ys} e (inr z) =
      inr (z.0, ap (λ (ws : List A). a ∷ ws) z.1 ∙ ap (λ (b : A). b ∷ (ys ++ y ∷ z.0)) e)

  pub split_last_one : (x : A) (xs : List A) (y : A) (ys zs : List A) → xs ++ x ∷ [] ≡ ys ++ y ∷ zs → Split x xs y ys zs
  split_last_one x xs y [] zs e = split_first x xs y zs e
  split_last_one x [] y (b ∷ ys) zs e = absurd (none_left ys y zs (tail_same e))
  split_last_one x (a ∷ xs) y (b ∷ ys) zs e = split_more (head_same e) (split_last_one x xs y ys zs (tail_same e))

-- ---- in the order of the text

there_more : {n : List ℕ} (d : Resolved) (front : List Resolved) {c : Declaration} → Declares c n
    → (Among c (in_order front) → IsThere front n) → Among c (in_order front) ⊎ Among c (d.what ∷ [])
    → IsThere (d ∷ front) n
there_more d front h rest (inl m) = let q = rest m in (q.0, later q.1, q.2)
there_more d front h rest (inr here) = (d.what, here, h)
there_more d front h rest (inr (later m)) = elim m [ ]

pub any_there : {n : List ℕ} (front : List Resolved) → AnyDeclares (in_order front) n → IsThere front n
any_there [] a = elim a.1 [ ]
any_there (d ∷ front) (c, m, h) = there_more d front h (λ m. any_there front (c, m, h)) (among_split (in_order front) m)

any_more : {n : List ℕ} (d : Resolved) (front : List Resolved) {c : Declaration} → Declares c n
    → (Among c (map (λ (d : Resolved). d.what) front) → AnyDeclares (in_order front) n)
    → Among c (d.what ∷ map (λ (d : Resolved). d.what) front) → AnyDeclares (in_order front ++ d.what ∷ []) n
any_more d front h rest here = (d.what, among_right (in_order front) here, h)
any_more d front h rest (later m) = let q = rest m in (q.0, among_left (d.what ∷ []) q.1, q.2)

pub there_any : {n : List ℕ} (front : List Resolved) → IsThere front n → AnyDeclares (in_order front) n
there_any [] a = elim a.1 [ ]
there_any (d ∷ front) (c, m, h) = any_more d front h (λ m. there_any front (c, m, h)) m

first_left : {n : List ℕ} {d : Declaration} {ds : List Declaration} (es : List Declaration) → IsFirst n d ds
    → IsFirst n d (ds ++ es)
first_left es (at_first h) = at_first h
first_left es (later_on c i) = later_on c (first_left es i)

first_right : (ds : List Declaration) {n : List ℕ} {d : Declaration} {es : List Declaration} → (AnyDeclares ds n → ⊥)
    → IsFirst n d es → IsFirst n d (ds ++ es)
first_right [] c i = i
first_right (x ∷ ds) c i = later_on (λ h. c (x, here, h)) (first_right ds (λ a. c (a.0, later a.1, a.2)) i)

pub named_first : {n : List ℕ} {d : Resolved} {before front : List Resolved} → IsNamed n d before front
    → IsFirst n d.what (in_order front)
named_first {before = before} (nearest h c) = first_right (in_order before) (λ a. c (any_there before a)) (at_first h)
named_first (farther {x = x} i) = first_left (x.what ∷ []) (named_first i)

module _ (types : Types) (exports : ℕ → Ident → Standing) (outside : Ident → Standing) (taken : List ℕ → Bool)
    (awaited : List ℕ → Option TypeNo) (nested : Bool) (block : List Declaration) where
  abbrev pub Stands : List Resolved → Ident → Standing → Type 0
  Stands = StandsFor types exports outside taken awaited nested block

  abbrev pub Meant : List Resolved → Resolved → Standing → Type 0
  Meant = Means types exports outside taken awaited nested block

  abbrev pub Added : List Resolved → Resolved → Type 0
  Added = IsAdded types exports outside taken awaited nested block

  abbrev pub AddedAll : List Resolved → Type 0
  AddedAll = AllAdded types exports outside taken awaited nested block

  abbrev pub All : List Resolved → (Ident → Standing) → Type 0
  All = AllStand types exports outside taken awaited nested block

  abbrev pub Breaks : List Resolved → Breach → Type 0
  Breaks = BrokenIn types exports outside taken awaited nested block

  -- ---- what a declaration says of its names

  never_ahead_without : (d : Declaration) → without nested d ≡ Ahead → ⊥
  never_ahead_without (OfConstant c) e = absurd cc
  never_ahead_without (OfType d) e = absurd cc
  never_ahead_without (OfVariables v) e = absurd cc
  never_ahead_without (OfProcedure h) e = absurd cc

  never_undeclared_without : (d : Declaration) → without nested d ≡ Undeclared → ⊥
  never_undeclared_without (OfConstant c) e = absurd cc
  never_undeclared_without (OfType d) e = absurd cc
  never_undeclared_without (OfVariables v) e = absurd cc
  never_undeclared_without (OfProcedure h) e = absurd cc

  meant_ahead : {before : List Resolved} {d : Resolved} {s : Standing} → Meant before d s → s ≡ Ahead → ⊥
  meant_ahead (rules.says all (rules.constant f)) e = absurd cc
  meant_ahead (rules.says all (rules.a_type t)) e = absurd cc
  meant_ahead (rules.says all (rules.variables t)) e = absurd cc
  meant_ahead (rules.says all (rules.a_procedure h)) e = absurd cc
  meant_ahead {d = d} (rules.says_nothing all n) e = never_ahead_without d.what e

  meant_undeclared : {before : List Resolved} {d : Resolved} {s : Standing} → Meant before d s → s ≡ Undeclared → ⊥
  meant_undeclared (rules.says all (rules.constant f)) e = absurd cc
  meant_undeclared (rules.says all (rules.a_type t)) e = absurd cc
  meant_undeclared (rules.says all (rules.variables t)) e = absurd cc
  meant_undeclared (rules.says all (rules.a_procedure h)) e = absurd cc
  meant_undeclared {d = d} (rules.says_nothing all n) e = never_undeclared_without d.what e

  heading_without : (d : Declaration) → IsProcedure (without nested d) → IsHeading d
  heading_without (OfConstant c) p = elim p [ ]
  heading_without (OfType d) p = elim p [ ]
  heading_without (OfVariables v) p = elim p [ ]
  heading_without (OfProcedure h) p = tt

  without_heading : (d : Declaration) → IsHeading d → IsProcedure (without nested d)
  without_heading (OfConstant c) p = absurd p
  without_heading (OfType d) p = absurd p
  without_heading (OfVariables v) p = absurd p
  without_heading (OfProcedure h) p = bodies.headless

  said_procedure : (b : Bool) (t : TypeNo) → IsProcedure (Known (rules.procedure b t))
  said_procedure true t = bodies.of_procedure
  said_procedure false t = bodies.of_module

  says_heading : {w : _} {d : Declaration} {a : _} {s : Standing} → rules.Says exports w nested d a s → IsProcedure s
      → IsHeading d
  says_heading (rules.constant f) p = elim p [ ]
  says_heading (rules.a_type t) p = elim p [ ]
  says_heading (rules.variables t) p = elim p [ ]
  says_heading (rules.a_procedure h) p = tt

  heading_says : {w : _} {d : Declaration} {a : _} {s : Standing} → rules.Says exports w nested d a s → IsHeading d
      → IsProcedure s
  heading_says (rules.constant f) p = absurd p
  heading_says (rules.a_type t) p = absurd p
  heading_says (rules.variables t) p = absurd p
  heading_says (rules.a_procedure h) p = said_procedure nested _

  meant_heading : {before : List Resolved} {d : Resolved} {s : Standing} → Meant before d s → IsProcedure s
      → IsHeading d.what
  meant_heading (rules.says all w) p = says_heading w p
  meant_heading {d = d} (rules.says_nothing all n) p = heading_without d.what p

  heading_meant : {before : List Resolved} {d : Resolved} {s : Standing} → Meant before d s → IsHeading d.what
      → IsProcedure s
  heading_meant (rules.says all w) p = heading_says w p
  heading_meant {d = d} (rules.says_nothing all n) p = without_heading d.what p

  heading_named : (d : Declaration) {n : List ℕ} → IsHeading d → Declares d n → Named (names_of d) n
  heading_named (OfConstant c) p h = absurd p
  heading_named (OfType d) p h = absurd p
  heading_named (OfVariables v) p h = absurd p
  heading_named (OfProcedure h) p q = elim (named_split (h.name ∷ []) q) [ inl m ↦ m | inr m ↦ elim m.1 [ ] ]

  module _ (whole : List Resolved) (order : in_order whole ≡ block) where
    pub all_there : {n : List ℕ} → AnyDeclares block n → IsThere whole n
    all_there {n = n} a = any_there whole (subst (λ (ds : List Declaration). AnyDeclares ds n) (sym order) a)

    -- Behind all declarations a name of the block stands for what one of them says.
    pub never_ahead : (name : Ident) {s : Standing} → taken name.name ≡ false → AnyDeclares block name.name
        → Stands whole name s → s ≡ Ahead → ⊥
    never_ahead name t a (rules.declared u i o m) e = meant_ahead m e
    never_ahead name t a (rules.enumerated u i o d m) e = absurd cc
    never_ahead name t a (rules.not_yet u i n) e = n (all_there a)
    never_ahead name t a (rules.from_outside c) e = c t a

    pub never_undeclared : (name : Ident) {s : Standing} → taken name.name ≡ false → AnyDeclares block name.name
        → Stands whole name s → s ≡ Undeclared → ⊥
    never_undeclared name t a (rules.declared u i o m) e = meant_undeclared m e
    never_undeclared name t a (rules.enumerated u i o d m) e = absurd cc
    never_undeclared name t a (rules.not_yet u i n) e = n (all_there a)
    never_undeclared name t a (rules.from_outside c) e = c t a

    -- a name that the block does not declare
    pub stands_outside : (name : Ident) {s : Standing} → (taken name.name ≡ false → AnyDeclares block name.name → ⊥)
        → Stands whole name s → s ≡ outside name
    stands_outside name c (rules.declared u i o m) =
        absurd (c u (subst (λ (ds : List Declaration). AnyDeclares ds name.name) order (there_any whole (any_named i))))
    stands_outside name c (rules.enumerated u i o d m) =
        absurd (c u (subst (λ (ds : List Declaration). AnyDeclares ds name.name) order (there_any whole (any_named i))))
    stands_outside name c (rules.not_yet u i n) = absurd (c u (any_first i))
    stands_outside name c (rules.from_outside d) = refl

    -- It is a procedure exactly if its first declaration is a heading.
    pub stands_heading : (name : Ident) {s : Standing} {d : Declaration} → taken name.name ≡ false
        → IsFirst name.name d block → Stands whole name s → IsProcedure s → IsHeading d
    stands_heading name t f (rules.declared {d = x} u i o m) p =
        one_first IsHeading f (subst (λ (ds : List Declaration). IsFirst name.name x.what ds) order (named_first i))
        (meant_heading m p)
    stands_heading name t f (rules.enumerated u i o d m) p = elim p [ ]
    stands_heading name t f (rules.not_yet u i n) p = absurd (n (all_there (any_first i)))
    stands_heading name t f (rules.from_outside c) p = absurd (c t (any_first f))

    pub heading_stands : (name : Ident) {s : Standing} {d : Declaration} → taken name.name ≡ false
        → IsFirst name.name d block → Stands whole name s → IsHeading d → IsProcedure s
    heading_stands name t f (rules.declared {d = x} u i o m) p =
        heading_meant m (one_first IsHeading (subst (λ (ds : List Declaration). IsFirst name.name x.what ds) order
        (named_first i)) f p)
    heading_stands name t f (rules.enumerated {d = x} u i o d m) p = let q =
        subst (λ (ds : List Declaration). IsFirst name.name x.what ds) order (named_first i) in
        absurd (o (heading_named x.what (one_first IsHeading q f p) (declares_first q)))
      where
        declares_first : {n : List ℕ} {d : Declaration} {ds : List Declaration} → IsFirst n d ds → Declares d n
        declares_first (at_first h) = h
        declares_first (later_on c i) = declares_first i
    heading_stands name t f (rules.not_yet u i n) p = absurd (n (all_there (any_first i)))
    heading_stands name t f (rules.from_outside c) p = absurd (c t (any_first f))

  -- ---- in front of a heading

  -- what stands in front stands behind too
  pub still_named : {n : List ℕ} {d x : Resolved} {before front : List Resolved} → IsNamed n d before front
      → IsNamed n d before (x ∷ front)
  still_named i = farther i

  -- a heading of the block, with what stands in front of it
  pub record HeadingAt (whole : List Resolved) (front : List Declaration) (h : Heading) : Type 0 where
    pub before : List Resolved
    pub order : in_order before ≡ front
    pub names : Ident → Standing
    pub all : All before names
    pub made : Extends (types_behind types before) (types_behind types whole)
    pub named : (n : List ℕ) (d : Resolved) (older : List Resolved) → IsNamed n d older before → IsNamed n d older whole
    pub what : Resolved
    pub heads : what.what ≡ OfProcedure h
    pub broken : (f : Breach) → Breaks (what ∷ before) f → Breaks whole f

  heading_here : {front : List Declaration} {h : Heading} (d : Resolved) (before : List Resolved)
      → in_order before ≡ front → d.what ≡ OfProcedure h → Added before d → HeadingAt (d ∷ before) front h
  heading_here d before o e (rules.is_added {names = names} all b) =
      record {
        before = before;
        order = o;
        names = names;
        all = all;
        made =
            extends_more (types_behind types before) d.adds.makes;
        named = λ n c older i. farther i;
        what = d;
        heads = e;
        broken = λ f b. b;
      }

  heading_by : (d : Resolved) (before : List Resolved) {front : List Declaration} {h : Heading}
      {rest : List Declaration} → Added before d
      → ((ws : List Declaration) → in_order before ≡ front ++ OfProcedure h ∷ ws → HeadingAt before front h)
      → Split d.what (in_order before) (OfProcedure h) front rest → HeadingAt (d ∷ before) front h
  heading_by d before a more (inl z) = heading_here d before z.1 z.2 a
  heading_by d before a more (inr z) = let q = more z.0 z.1 in
      record {
        before = q.before;
        order = q.order;
        names = q.names;
        all = q.all;
        made =
            extends_then (types_behind types q.before) (types_behind types before) (types_behind types (d ∷ before))
            q.made (extends_more (types_behind types before) d.adds.makes);
        named =
            λ n c older i. farther (q.named n c older i);
        what = q.what;
        heads = q.heads;
        broken =
            λ f b. rules.in_front (q.broken f b);
      }

  pub heading_at : (whole : List Resolved) → AddedAll whole
      → (front : List Declaration) (h : Heading) (rest : List Declaration)
      → in_order whole ≡ front ++ OfProcedure h ∷ rest → HeadingAt whole front h
  heading_at [] a front h rest e = absurd (none_left front (OfProcedure h) rest e)
  heading_at (d ∷ before) (rules.each_added a more) front h rest e =
      heading_by d before a (λ ws q. heading_at before more front h ws q)
      (split_last_one d.what (in_order before) (OfProcedure h) front rest e)
