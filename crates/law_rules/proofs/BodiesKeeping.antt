-- What each declaration keeps of the scope, and what it enters.
use Rattle.std.proofs.Common.{◌≡◌, ℕ, suc, ◌≤◌, Bool, true, false, cond, List, [], ◌∷◌, length, Option, Some, None, Result, Ok, Err, ◌⊎◌, inl, inr, refl, sym, ap, subst, ◌∙◌, arith}
use Rattle.std.specs.Prelude.{◌==◌}
use Rattle.std.specs.List.{fold}
use Rattle.m2_tree.specs.Names.{same_name}
use Rattle.m2_tree.specs.declared.decl.Def.{Def}
use Rattle.m2_tree.specs.declared.decl.Decl.{Decl, out-Decl}
use Rattle.typed_tree.specs.declared.types.TypeNo.{TypeNo}
use Rattle.typed_tree.specs.declared.shape.Made.{Made}
use Rattle.typed_tree.specs.declared.meaning.Meaning.{Meaning}
use Rattle.typed_tree.specs.declared.meaning.Meaning.TheVariants as meaning
use Rattle.typed_tree.specs.declared.meaning.LocalKind.TheVariants as kind
use Rattle.typed_tree.specs.Names.{find_name, enter_name}
use Rattle.check_scope.specs.Elaborated.{Gathers, ◌▷◌}
use Rattle.check_scope.specs.declared.known.Known.{Known}
use Rattle.check_scope.specs.declared.known.Known.TheVariants.{Later, Ahead, Begun, Headed, Declared}
use Rattle.check_scope.specs.declared.known.Origin.TheVariants.{Here}
use Rattle.check_scope.specs.declared.scope.Scope.{Scope}
use Rattle.check_scope.specs.Scopes.{State, with_known, heading_means}
use Rattle.check_scope.specs.declared.meaningless.Meaningless.TheVariants as meaningless
use Rattle.check_const.specs.Parts.{constant}
use Rattle.check_expr.specs.Meanings.{part}
use Rattle.check_type_expr.specs.Made.{with_shape, enumeration_constant}
use Rattle.check_definition.specs.Declare.{with_variable_type, with_procedure_type, with_def}
use Rattle.check_block.specs.Naming.{marked_decl}
use Rattle.check_block.specs.Declarations.{Course, with_decl}
use Rattle.law_folds.proofs.TypeSteps.{by_shapes}
use Rattle.law_folds.proofs.Orders.{IsOrder, steps}
use Rattle.law_folds.proofs.MarkSteps.{KeepsMarks, decl_layer_marks}
use Rattle.law_folds.proofs.NameSteps.{AtLevel, varied_level, level_names}
use Rattle.law_folds.proofs.DefinitionSteps.{KeepsDefinitions, defs_keep}
use Rattle.law_folds.proofs.BlockSteps.{headed_level, KeepsBlocks, decls_keep}
use Rattle.law_typing.proofs.Entering.{entered_all}
use Rattle.law_typing.proofs.Naming.{index}

-- ---- lists of names that grow at their end

abbrev pub Names : Type 0 → Type 0
Names V = List (List ℕ × V)

module _ {V : Type 0} where
  abbrev pub KeptAt : List ℕ → Names V → Names V → Type 0
  KeptAt n es fs = (k : V) × (find_name n fs ≡ Some k) × (index n fs ≡ index n es)

  pub record Grows (es fs : Names V) : Type 0 where
    pub kept : (n : List ℕ) (k : V) → find_name n es ≡ Some k → KeptAt n es fs
    pub new : (n : List ℕ) (k : V) → find_name n es ≡ None → find_name n fs ≡ Some k → length es ≤ index n fs
    pub longer : length es ≤ length fs

  clash : {k : V} {o : Option V} → o ≡ None → o ≡ Some k → ⊥
  clash e f = let z = sym e ∙ f in absurd cc

  pub grows_refl : (es : Names V) → Grows es es
  grows_refl es = record { kept = λ n k e. (k, e, refl); new = λ n k e f. absurd (clash e f); longer = omega arith }

  new_by : (es fs gs : Names V) (n : List ℕ) (k : V) → length es ≤ length fs → (o : Option V) → find_name n fs ≡ o
      → ((v : V) → find_name n fs ≡ Some v → length es ≤ index n fs)
      → ((v : V) → find_name n fs ≡ Some v → KeptAt n fs gs) → (find_name n fs ≡ None → length fs ≤ index n gs)
      → length es ≤ index n gs
  new_by es fs gs n k l (Some v) e near kept far = let a = near v e in let b = (kept v e).2 in omega (arith, a, b)
  new_by es fs gs n k l None e near kept far = let a = far e in omega (arith, a, l)

  pub grows_then : {es fs gs : Names V} → Grows es fs → Grows fs gs → Grows es gs
  grows_then {es = es} {fs = fs} {gs = gs} p q = record {
    kept = λ n k e. let a = p.kept n k e in let b = q.kept n a.0 a.1 in (b.0, b.1, b.2 ∙ a.2);
    new = λ n k e f. new_by es fs gs n k p.longer (find_name n fs) refl (λ v h. p.new n v e h) (λ v h. q.kept n v h)
        (λ h. q.new n k h f);
    longer = let a = p.longer in let b = q.longer in omega (arith, a, b);
  }

  kept_head : (b : Bool) (old v k : V) (o : Option V) (i : ℕ) → cond b (Some old) o ≡ Some k → (w : V)
      × (cond b (Some v) o ≡ Some w) × (cond b 0 (suc i) ≡ cond b 0 (suc i))
  kept_head true old v k o i e = (v, refl, refl)
  kept_head false old v k o i e = (k, e, refl)

  none_head : (b : Bool) (old v k : V) (o : Option V) → cond b (Some old) o ≡ None → cond b (Some v) o ≡ Some k → ⊥
  none_head true old v k o e f = absurd cc
  none_head false old v k o e f = clash e f

  kept_tail : (b : Bool) (v k : V) (o r : Option V) (i l : ℕ) → cond b (Some v) o ≡ Some k
      → (o ≡ Some k → (w : V) × (r ≡ Some w) × (l ≡ i)) → (w : V) × (cond b (Some v) r ≡ Some w)
      × (cond b 0 (suc l) ≡ cond b 0 (suc i))
  kept_tail true v k o r i l e h = (v, refl, refl)
  kept_tail false v k o r i l e h = let q = h e in (q.0, q.1, ap (λ (n : ℕ). suc n) q.2)

  none_tail : (b : Bool) (v k : V) (o r : Option V) (n l : ℕ) → cond b (Some v) o ≡ None → cond b (Some v) r ≡ Some k
      → (o ≡ None → r ≡ Some k → n ≤ l) → suc n ≤ cond b 0 (suc l)
  none_tail true v k o r n l e f h = absurd cc
  none_tail false v k o r n l e f h = let q = h e f in omega (arith, q)

  grows_head : (e : List ℕ × V) (v : V) (es : Names V) → Grows (e ∷ es) ((e.0, v) ∷ es)
  grows_head e v es = record {
    kept = λ n k q. kept_head (same_name n e.0) e.1 v k (find_name n es) (index n es) q;
    new = λ n k q f. absurd (none_head (same_name n e.0) e.1 v k (find_name n es) q f);
    longer = omega arith;
  }

  grows_tail : (e : List ℕ × V) {es fs : Names V} → Grows es fs → Grows (e ∷ es) (e ∷ fs)
  grows_tail e {es = es} {fs = fs} p = record {
    kept = λ n k q. kept_tail (same_name n e.0) e.1 k (find_name n es) (find_name n fs) (index n es) (index n fs) q
        (p.kept n k);
    new = λ n k q f. none_tail (same_name n e.0) e.1 k (find_name n es) (find_name n fs) (length es) (index n fs) q f
        (p.new n k);
    longer = let a = p.longer in omega (arith, a);
  }

  grows_by : (b : Bool) (e : List ℕ × V) (v : V) {es fs : Names V} → Grows es fs
      → Grows (e ∷ es) (cond b ((e.0, v) ∷ es) (e ∷ fs))
  grows_by true e v {es = es} p = grows_head e v es
  grows_by false e v p = grows_tail e p

  pub grows_entered : (name : List ℕ) (v : V) (es : Names V) → Grows es (enter_name name v es)
  grows_entered name v [] = record { kept = λ n k e. absurd cc; new = λ n k e f. omega arith; longer = omega arith }
  grows_entered name v (e ∷ es) = grows_by (same_name name e.0) e v (grows_entered name v es)

-- ---- what is entered

abbrev pub IsProc : Meaning → Type 0
IsProc (meaning.Procedure p) = Unit {0}
IsProc (meaning.LocalProcedure p) = Unit {0}
IsProc other = ⊥

-- by the level of the block
abbrev pub FitsMeaning : ℕ → Meaning → Type 0
FitsMeaning l (meaning.Procedure p) = ⊥
FitsMeaning l (meaning.LocalProcedure p) = ⊥
FitsMeaning l (meaning.Local v) = (v.level ≡ l) × ((l == 0) ≡ false)
FitsMeaning l (meaning.Variable v) = (l == 0) ≡ true
FitsMeaning l other = Unit {0}

abbrev pub Fits : {T : Type 0} → ℕ → Known T → Type 0
Fits l (Headed (Ok m)) = IsProc m
Fits l (Headed (Err (meaningless.Broken e))) = ⊥
Fits l (Declared o (Ok m)) = FitsMeaning l m
Fits l other = Unit {0}

pub record Keeps {T : Type 0} (s t : Scope T) : Type 0 where
  pub tables : t.tables ≡ s.tables
  pub outer : t.outer ≡ s.outer
  pub level : t.level ≡ s.level
  pub withs : t.withs ≡ s.withs
  pub home : t.types.home ≡ s.types.home
  pub grows : Grows s.own t.own
  pub entries : (n : List ℕ) (k : Known T) → find_name n t.own ≡ Some k → (find_name n s.own ≡ Some k) ⊎ Fits s.level k

pub keeps_refl : {T : Type 0} (s : Scope T) → Keeps s s
keeps_refl s = record {
  tables = refl;
  outer = refl;
  level = refl;
  withs = refl;
  home = refl;
  grows = grows_refl s.own;
  entries = λ n k e. inl e;
}

pub keeps_then : {T : Type 0} {a b c : Scope T} → Keeps a b → Keeps b c → Keeps a c
keeps_then p q = record {
  tables = q.tables ∙ p.tables;
  outer = q.outer ∙ p.outer;
  level = q.level ∙ p.level;
  withs = q.withs ∙ p.withs;
  home = q.home ∙ p.home;
  grows = grows_then p.grows q.grows;
  entries = λ n k e. elim (q.entries n k e)
      [ inl f ↦ p.entries n k f | inr f ↦ inr (subst (λ (l : ℕ). Fits l k) p.level f) ];
}

one_known : {T : Type 0} {k l : Known T} → ◌≡◌ {A = Option (Known T)} (Some k) (Some l) → k ≡ l
one_known e = cc

pub known_keeps : {T : Type 0} (s : Scope T) (name : List ℕ) (k : Known T) → Fits s.level k
    → Keeps s (with_known name k s)
known_keeps {T = T} s name k f = record {
  tables = refl;
  outer = refl;
  level = refl;
  withs = refl;
  home = refl;
  grows = grows_entered name k s.own;
  entries = entered_all (λ (n : List ℕ) (o : Option (Known T)). (l : Known T) → o ≡ Some l
      → (find_name n s.own ≡ Some l) ⊎ Fits s.level l) name k s.own
      (λ l e. inr (subst (λ (m : Known T). Fits s.level m) (one_known e) f)) (λ n c l e. inl e);
}

-- ---- types

pub shape_keeps : {T : Type 0} (s : Scope T) (x : Made) → Keeps s (with_shape s x)
shape_keeps s x = record {
  tables = refl;
  outer = refl;
  level = refl;
  withs = refl;
  home = refl;
  grows =
      grows_refl s.own;
  entries = λ n k e. inl e;
}

-- ---- marks

order : {T : Type 0} → IsOrder {T = T} Keeps
order = record { same = keeps_refl; next = λ a b c p q. keeps_then p q }

marks : {T : Type 0} → KeepsMarks {T = T} Keeps
marks = record {
  order = order;
  later = λ s name e. known_keeps s name Later tt;
  ahead = λ s name e. known_keeps s name Ahead tt;
}

pub marks_keep : (T : Type 0) (ds : List Decl) (s : Scope T) → Keeps s (fold marked_decl s ds)
marks_keep T = steps order (λ s. s) marked_decl (λ s d. decl_layer_marks marks (out-Decl d) s)

-- ---- declarations

module _ (g : Gathers) where
  abbrev Goes : Scope g.Reported → Scope g.Reported → Type 0
  Goes s t = Keeps s t

  fits_by : {A : Type 0} (l : ℕ) (r : Result A g.Reported) (f : A → Meaning) → ((x : A) → FitsMeaning l (f x))
      → Fits {T = g.Reported} l (Declared Here (r ▷ λ x. Ok (f x)))
  fits_by l (Ok x) f h = h x
  fits_by l (Err e) f h = tt

  heads_by : (l : ℕ) (b : Bool) (r : Result TypeNo g.Reported) (f : TypeNo → Meaning) → ((t : TypeNo) → IsProc (f t))
      → Fits {T = g.Reported} l (Headed (heading_means b (r ▷ λ x. Ok (f x))))
  heads_by l b (Ok t) f h = h t
  heads_by l b (Err e) f h = tt

  varied : (s : Scope g.Reported) (t : Result TypeNo g.Reported) → Goes s (with_variable_type s t)
  varied s (Err e) = keeps_refl s
  varied s (Ok t) = record {
    tables = refl;
    outer = refl;
    level = refl;
    withs = refl;
    home = refl;
    grows = grows_refl s.own;
    entries = λ n k e. inl e;
  }

  headed : (s : Scope g.Reported) (t : Result TypeNo g.Reported) → Goes s (with_procedure_type s t)
  headed s (Err e) = keeps_refl s
  headed s (Ok t) = record {
    tables = refl;
    outer = refl;
    level = refl;
    withs = refl;
    home = refl;
    grows = grows_refl s.own;
    entries = λ n k e. inl e;
  }

  blocks : KeepsBlocks g Goes
  blocks = record {
    marks = marks;
    names = record {
      types = by_shapes g (record {
        order = order;
        shaped = shape_keeps;
        listed = λ s name t n e. known_keeps s name (Declared Here (Ok (enumeration_constant t n))) tt;
      });
      begun = λ s name e. known_keeps s name Begun tt;
      constant_ends =
          λ s c e. known_keeps s c.name.name _
          (fits_by s.level (constant g s (part g c.value)) (λ x. meaning.Constant x) (λ x. tt));
      type_ends = λ s name t n e. known_keeps s name _ (fits_by s.level t (λ x. meaning.Type x n) (λ x. tt));
    };
    varied = varied;
    variable_ends = λ s name t l e.
        let v : Scope g.Reported = with_variable_type s t in
        let mine = varied s t in
        keeps_then mine (known_keeps v name _
        (fits_by v.level t (λ x. meaning.Variable (record { home = s.types.home; number = length s.variables; of = x }))
        (λ x. ap (λ (n : ℕ). n == 0) mine.level ∙ l)));
    local_ends = λ s name t l e.
        let v : Scope g.Reported = with_variable_type s t in
        let mine = varied s t in
        keeps_then mine (known_keeps v name _
        (fits_by v.level t (λ x. meaning.Local
        (record { level = s.level; number = length s.variables; kind = kind.Variable; of = x }))
        (λ x. (sym mine.level, ap (λ (n : ℕ). n == 0) mine.level ∙ l))));
    procedure = λ s name t l e.
        let p : Scope g.Reported = with_procedure_type s t in
        keeps_then (headed s t) (known_keeps p name _
        (heads_by p.level false t (λ x. meaning.Procedure
        (record { home = s.types.home; number = length s.procedures; heading = x })) (λ x. tt)));
    nested =
        λ s name n t l e. known_keeps s name _
        (heads_by s.level true t (λ x. meaning.LocalProcedure (record { level = s.level; number = n; heading = x }))
        (λ x. tt));
    awaited = λ s name p e. known_keeps s name (Headed (Ok (meaning.Procedure p))) tt;
  }

  -- a definition is no procedure's block
  definitions : KeepsDefinitions g (AtLevel true Goes)
  definitions = record {
    names = level_names g true blocks.names;
    varied = λ s t. (varied_level s t, λ l. varied s t);
    variable_ends = λ s name t e. (varied_level s t, λ l. blocks.variable_ends s name t l e);
    headed = λ s t. (headed_level s t, λ l. headed s t);
    procedure = λ s name t e. (headed_level s t, λ l. blocks.procedure s name t l e);
  }

  pub definitions_keep : (ds : List Def) (st : State (Unit {0}) g.Reported) → (st.0.level == 0) ≡ true
      → Keeps st.0 (fold (with_def g) st ds).0
  definitions_keep ds st l = (defs_keep g definitions ds st).1 l

  pub declarations_keep : (ends : List ℕ) (ds : List Decl) (c : Course g.Reported)
      → Goes c.0 (fold (with_decl g ends) c ds).0
  declarations_keep = decls_keep g blocks
