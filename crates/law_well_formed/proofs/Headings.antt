-- The type of a heading has the formals and the result that are computed where the procedure's block begins.
use Rattle.std.proofs.Common.{◌≡◌, ℕ, ◌==◌, Bool, true, false, not, cond, List, [], ◌∷◌, ◌++◌, length, Option, Some, None, Result, Ok, Err, refl, sym, ap, subst, ◌∙◌, append_assoc}
use Rattle.std.specs.Prelude.{slice_get, nat_eq}
use Rattle.std.specs.Map.{lookup}
use Rattle.std.specs.List.{fold}
use lib.Dec.{T, eqb_refl}
use Rattle.std.proofs.lemmas.List.{append-nil}
use Rattle.m2_rule.specs.declared.rule.Rule.TheVariants as rule
use Rattle.m2_tree.specs.declared.name.Ident.{Ident}
use Rattle.m2_tree.specs.declared.expr.Qualified.{Qualified}
use Rattle.m2_tree.specs.declared.decl.Block.{Block}
use Rattle.m2_tree.specs.declared.decl.Decl.{Decl, Decl-F, out-Decl}
use Rattle.m2_tree.specs.declared.decl.Decl.TheOpen as layer
use Rattle.m2_tree.specs.declared.decl.FormalType.{FormalType}
use Rattle.m2_tree.specs.declared.decl.Heading.{Heading}
use Rattle.m2_tree.specs.declared.decl.Section.{Section}
use Rattle.m2_tree.specs.declared.pos.Pos.{Pos}
use Rattle.typed_tree.specs.declared.meaning.Meaning.{Meaning}
use Rattle.typed_tree.specs.declared.meaning.Meaning.TheVariants as meaning
use Rattle.typed_tree.specs.declared.shape.Formal.{Formal}
use Rattle.typed_tree.specs.declared.shape.Made.{Made}
use Rattle.typed_tree.specs.declared.shape.Shape.TheVariants as shape
use Rattle.typed_tree.specs.declared.shape.Signature.{Signature}
use Rattle.typed_tree.specs.declared.types.Home.{Home}
use Rattle.typed_tree.specs.declared.types.Home.TheVariants.{Predeclared, Module}
use Rattle.typed_tree.specs.declared.types.TypeNo.{TypeNo}
use Rattle.typed_tree.specs.Known.{made_in, made_at, in_list, is_result_made, is_result_from, is_result}
use Rattle.typed_tree.specs.Names.{find_name}
use Rattle.check_scope.specs.Elaborated.{Gathers, report, reported_where, both, ◌▷◌}
use Rattle.check_scope.specs.Scopes.{State}
use Rattle.check_scope.specs.declared.known.Known.{Known}
use Rattle.check_scope.specs.declared.known.Known.TheVariants.{Headed}
use Rattle.check_scope.specs.declared.scope.Scope.{Scope}
use Rattle.check_scope.specs.Scopes.{heading_means}
use Rattle.check_type_expr.specs.Headings.{formal_of, result_in, result_of, formal_for_each, with_section, heading_of, names_of}
use Rattle.check_type_expr.specs.Made.{next_type, with_shape}
use Rattle.check_type_expr.specs.Named.{first_of, named_type}
use Rattle.check_block.specs.declared.heading.Standing.{Standing}
use Rattle.check_block.specs.declared.heading.Standing.TheVariants.{Free, Awaited, Taken}
use Rattle.check_block.specs.Agreeing.{signature_in, signature_of, agree}
use Rattle.check_block.specs.Headings.{name_standing, nested_meaning, set_heading, module_procedure, nothing_made, headed_as}
use Rattle.check_block.specs.Declarations.{Course, with_procedure, decl_layer, with_decl}
use Rattle.check_scope.specs.Inwards.{inwards}
use Rattle.law_well_formed.proofs.Names.{get_last, found_self}
use Rattle.law_well_formed.proofs.ScopesDeclarations.{beside_right, decl_reported, head_reported}
use Rattle.law_well_formed.specs.FormedNumbers.{with_one, with_names, with_formals_of, all_formals}
use Rattle.law_well_formed.specs.FormedHeadings.{declared_by, all, course_begin, end, names_before, IsBehind, heading_in, HeadingStands, HeadingsStay}
use Rattle.law_well_formed.proofs.Agreeing.{agreed_made}
use Rattle.law_well_formed.proofs.HeadingsSteps.{Keeps}
use Rattle.law_well_formed.proofs.Resolving.{declared_append, block_changes, to_last, named_stays}

-- ---- results that are there

module _ (g : Gathers) where
  both_ok : {A B C : Type 0} (a : Result A g.Reported) (b : Result B g.Reported) (f : A × B → Result C g.Reported)
      (z : C) → (both g a b ▷ f) ≡ Ok z → (x : A) × (y : B) × ((a ≡ Ok x) × (b ≡ Ok y) × (f (x, y) ≡ Ok z))
  both_ok (Ok x) (Ok y) f z e = (x, y, (refl, refl, e))
  both_ok (Ok x) (Err y) f z e = absurd cc
  both_ok (Err x) (Ok y) f z e = absurd cc
  both_ok (Err x) (Err y) f z e = absurd cc

  then_ok : {A B : Type 0} (r : Result A g.Reported) (f : A → Result B g.Reported) (z : B) → (r ▷ f) ≡ Ok z → (x : A)
      × ((r ≡ Ok x) × (f x ≡ Ok z))
  then_ok (Ok x) f z e = (x, (refl, e))
  then_ok (Err x) f z e = absurd cc

-- ---- formals

-- a scope in which each name of a type that the other finds is found
module _ (g : Gathers) (s inner : Scope g.Reported)
    (stays : (q : Qualified) (t : TypeNo) → named_type g s q ≡ Ok t → named_type g inner q ≡ Ok t) where
  formal_stays : (is_var : Bool) (f : FormalType) (x : Formal) → formal_of g s is_var f ≡ Ok x
      → formal_of g inner is_var f ≡ Ok x
  formal_stays is_var f x e =
      let t = then_ok g (named_type g s f.of) (λ t. Ok (record { is_var = is_var; is_open = f.is_open; of = t })) x e in
      ap (λ (r : Result TypeNo g.Reported). r ▷ λ t. Ok (record { is_var = is_var; is_open = f.is_open; of = t }))
      (stays f.of t.0 t.1.0) ∙ t.1.1

  repeated_all : (f : Formal) (fs : List Formal) (names : List Ident)
      → fold (λ so x. with_one {T = g.Reported} so (Ok f)) fs names ≡ fs ++ formal_for_each f names
  repeated_all f fs [] = sym (append-nil fs)
  repeated_all f fs (x ∷ xs) = repeated_all f (fs ++ f ∷ []) xs ∙ append_assoc fs (f ∷ []) (formal_for_each f xs)

  sections_stay : (xs : List Section) (so : Result (List Formal) g.Reported) (fs : List Formal)
      → fold (with_section g s) so xs ≡ Ok fs → (first : List Formal)
      × ((so ≡ Ok first) × (fs ≡ fold (with_formals_of g inner) first xs))
  sections_stay [] so fs e = (fs, (e, refl))
  sections_stay (x ∷ xs) so fs e =
      let more = sections_stay xs (with_section g s so x) fs e in
      let f = formal_of g s x.is_var x.of in
      let joined = both_ok g so f (λ p. Ok (p.0 ++ formal_for_each p.1 x.names)) more.0 more.1.0 in
      let is : joined.0 ++ formal_for_each joined.1 x.names ≡ more.0 =
      ok_same (joined.0 ++ formal_for_each joined.1 x.names) more.0 joined.2.2 in
      let formal : formal_of g inner x.is_var x.of ≡ Ok joined.1 = formal_stays x.is_var x.of joined.1 joined.2.1 in
      let next : with_formals_of g inner joined.0 x ≡ more.0 =
      ap (λ (r : Result Formal g.Reported). with_names r joined.0 x.names) formal
      ∙ (repeated_all joined.1 joined.0 x.names ∙ is)
      in
      (joined.0, (joined.2.0, more.1.1 ∙ ap (λ (ys : List Formal). fold (with_formals_of g inner) ys xs) (sym next)))
    where
      ok_same : (a b : List Formal) → ◌≡◌ {A = Result (List Formal) g.Reported} (Ok a) (Ok b) → a ≡ b
      ok_same a b e = cc

  -- ---- results

  module _ (types : (t : TypeNo) (x : Made) → made_at s.types t ≡ Some x → made_at inner.types t ≡ Some x) where
    made_result : (t : TypeNo) (o : Option Made) → made_at s.types t ≡ o → is_result_made o ≡ true
        → is_result_made (made_at inner.types t) ≡ true
    made_result t None m e = absurd cc
    made_result t (Some x) m e = ap is_result_made (types t x m) ∙ e

    result_home : (h : Home) (n : ℕ) → is_result_from s.types h n ≡ true
        → ((o : Option Made) → made_at s.types (record { home = h; number = n }) ≡ o → is_result_made o ≡ true
        → is_result_made (made_at inner.types (record { home = h; number = n })) ≡ true)
        → is_result_from inner.types h n ≡ true
    result_home Predeclared n e k = refl
    result_home (Module h) n e k = k (made_in s.types h n) refl e

    result_stays : (t : TypeNo) → is_result s.types t ≡ true → is_result inner.types t ≡ true
    result_stays t e = result_home t.home t.number e (λ o m r. made_result t o m r)

    given_by : (at : Pos) (t : TypeNo) (r : Option TypeNo) (b : Bool) → is_result s.types t ≡ b
        → reported_where g (not b) at rule.NoType (Ok (Some t)) ≡ Ok r → result_in g inner.types at t ≡ Ok r
    given_by at t r true e k = ap (λ (c : Bool). reported_where g (not c) at rule.NoType (Ok (Some t)))
        (result_stays t e) ∙ k
    given_by at t r false e k = absurd cc

    pub results_stay : (o : Option Qualified) (r : Option TypeNo) → result_of g s o ≡ Ok r → result_of g inner o ≡ Ok r
    results_stay None r e = e
    results_stay (Some q) r e =
        let t = then_ok g (named_type g s q) (result_in g s.types (first_of q)) r e in
        ap (λ (x : Result TypeNo g.Reported). x ▷ result_in g inner.types (first_of q)) (stays q t.0 t.1.0)
        ∙ given_by (first_of q) t.0 r (is_result s.types t.0) refl t.1.1

    -- ---- a heading

    -- what is made of it has the formals and the result that the other scope gives
    pub record Signed (h : Heading) (x : Made) : Type 0 where
      pub result : Option TypeNo
      pub gives : result_of g inner h.result ≡ Ok result
      pub shape : x.shape ≡ shape.Procedure (record { formals = all_formals g inner h.formals; result = result })

    pub heading_signed : (h : Heading) (x : Made) → heading_of g s h ≡ Ok x → Signed h x
    heading_signed h x e =
        let inside = both_ok g (fold (with_section g s) (Ok []) h.formals) (result_of g s h.result)
        (λ p. Ok (record { shape = shape.Procedure (record { formals = p.0; result = p.1 }); cells = 1 })) x e in
        let fs = sections_stay h.formals (Ok []) inside.0 inside.2.0 in
        let empty : fs.0 ≡ [] = sym (ok_list [] fs.0 fs.1.0) in
        let formals : inside.0 ≡ all_formals g inner h.formals = fs.1.1
        ∙ ap (λ (ys : List Formal). fold (with_formals_of g inner) ys h.formals) empty in
        let made : Made = record {
          shape = shape.Procedure (record { formals = inside.0; result = inside.1 });
          cells =
              1;
        } in
        let is : made ≡ x = ok_made made x inside.2.2 in
        record {
          result = inside.1;
          gives = results_stay h.result inside.1 inside.2.1;
          shape = ap (λ (m : Made). m.shape) (sym is)
              ∙ ap (λ (ys : List Formal). shape.Procedure (record { formals = ys; result = inside.1 })) formals;
        }
      where
        ok_list : (a b : List Formal) → ◌≡◌ {A = Result (List Formal) g.Reported} (Ok a) (Ok b) → a ≡ b
        ok_list a b e = cc

        ok_made : (a b : Made) → ◌≡◌ {A = Result Made g.Reported} (Ok a) (Ok b) → a ≡ b
        ok_made a b e = cc

-- ---- what a heading leaves under its name

is_so : (b : Bool) → T b → b ≡ true
is_so true h = refl
is_so false h = absurd h

module _ (g : Gathers) where
  -- a procedure, whose type has this signature
  record Leaves (s : Scope g.Reported) (name : List ℕ) (sig : Signature) : Type 0 where
    means : Meaning
    named : find_name name s.own ≡ Some (Headed (Ok means))
    heading : TypeNo
    is : heading_in means ≡ Some heading
    made : Made
    there : made_at s.types heading ≡ Some made
    shape : made.shape ≡ shape.Procedure sig

  next_made : (s : Scope g.Reported) (x : Made) → made_at (with_shape s x).types (next_type s) ≡ Some x
  next_made s x =
      ap (λ (b : Bool). cond b (slice_get (s.types.own ++ x ∷ []) (length s.types.own))
      (in_list (length s.types.own) (lookup (nat_eq s.types.home) s.types.others)))
      (is_so (s.types.home == s.types.home) (eqb_refl s.types.home))
      ∙ get_last s.types.own x

  new_by : (b : Bool) (s : Scope g.Reported) (name : List ℕ) (n : ℕ) (t : TypeNo) (x : Made) (sig : Signature)
      → made_at s.types t ≡ Some x → x.shape ≡ shape.Procedure sig
      → Leaves (cond b (module_procedure s name (Ok t))
      (set_heading name (heading_means true (nested_meaning s.level n (Ok t))) s)) name sig
  new_by true s name n t x sig e k =
      let m : Meaning = meaning.Procedure (record { home = s.types.home; number = length s.procedures; heading = t }) in
      record {
        means = m;
        named = found_self name (Headed (Ok m)) s.own;
        heading = t;
        is = refl;
        made = x;
        there = e;
        shape = k;
      }
  new_by false s name n t x sig e k =
      let m : Meaning = meaning.LocalProcedure (record { level = s.level; number = n; heading = t }) in
      record {
        means = m;
        named = found_self name (Headed (Ok m)) s.own;
        heading = t;
        is = refl;
        made = x;
        there = e;
        shape = k;
      }

  agreed : (o : Option Made) (x : Made) (sig : Signature) (at : Pos) (b : Bool) → x.shape ≡ shape.Procedure sig
      → agree (signature_of (Some x)) (signature_of o) ≡ b
      → reported_where g {A = Unit {0}} (not b) at rule.OtherHeading (Ok tt) ≡ Ok tt
      → (y : Made) × ((o ≡ Some y) × (y.shape ≡ shape.Procedure sig))
  agreed o x sig at false k e t = absurd cc
  agreed o x sig at true k e t = agreed_made sig o (sym (ap (λ z. agree (signature_in z) (signature_of o)) k) ∙ e)

  left_by : (s : Scope g.Reported) (h : Heading) (n : ℕ) (made : Result Made g.Reported) (sig : Signature)
      (o : Standing) → ((x : Made) → made ≡ Ok x → x.shape ≡ shape.Procedure sig) → (headed_as g s h n made o).1 ≡ Ok tt
      → Leaves (headed_as g s h n made o).0 h.name.name sig
  left_by s h n (Ok x) sig Free k e = new_by (s.level == 0) (with_shape s x) h.name.name n (next_type s) x sig
      (next_made s x) (k x refl)
  left_by s h n (Err x) sig Free k e = absurd cc
  left_by s h n (Ok x) sig (Awaited p) k e =
      let y = agreed (made_at s.types p.heading) x sig h.name.pos
      (agree (signature_of (Some x)) (signature_of (made_at s.types p.heading))) (k x refl) refl e in
      let m : Meaning = meaning.Procedure p in
      record {
        means = m;
        named = found_self h.name.name (Headed (Ok m)) s.own;
        heading = p.heading;
        is = refl;
        made =
            y.0;
        there = y.1.0;
        shape = y.1.1;
      }
  left_by s h n (Err x) sig (Awaited p) k e = absurd cc
  left_by s h n made sig Taken k e = let z : report g {A = Unit {0}} h.name.pos rule.DeclaredTwice ≡ Ok tt =
      beside_right g (nothing_made made) (report g h.name.pos rule.DeclaredTwice) e in absurd cc

  -- a heading that breaks no rule is made
  made_by : (s : Scope g.Reported) (h : Heading) (n : ℕ) (made : Result Made g.Reported) (o : Standing)
      → (headed_as g s h n made o).1 ≡ Ok tt → (x : Made) × (made ≡ Ok x)
  made_by s h n (Ok x) o e = (x, refl)
  made_by s h n (Err x) Free e = absurd cc
  made_by s h n (Err x) (Awaited p) e = absurd cc
  made_by s h n (Err x) Taken e = let z : report g {A = Unit {0}} h.name.pos rule.DeclaredTwice ≡ Ok tt =
      beside_right g (nothing_made (Err x)) (report g h.name.pos rule.DeclaredTwice) e in absurd cc

  reported_back : (ends : List ℕ) (ds : List Decl) (c : Course g.Reported) → (declared_by g ends c ds).1 ≡ Ok tt
      → c.1 ≡ Ok tt
  reported_back ends [] c e = e
  reported_back ends (d ∷ ds) c e = decl_reported g ends c (out-Decl d) (reported_back ends ds (with_decl g ends c d) e)

  -- ---- behind the block's declarations

  module _ (ends : List ℕ) (a : Scope g.Reported) (first : ℕ) (before : List Decl) (d : Decl) (rest : List Decl)
      (no_withs : a.withs ≡ []) where
    abbrev here : Course g.Reported
    here = declared_by g ends (course_begin g ends a first before d rest) before

    abbrev last : Scope g.Reported
    last = end g ends a first before d rest

    abbrev n : ℕ
    n = names_before g ends a first before d rest

    module _ (fine : (declared_by g ends (course_begin g ends a first before d rest)
        (all g ends a first before d rest)).1 ≡ Ok tt)
        (w : Scope g.Reported) (behind : IsBehind last w)
        (types : (t : TypeNo) (x : Made) → made_at last.types t ≡ Some x → made_at w.types t ≡ Some x)
        (h : Heading) (b : Block) (is : out-Decl d ≡ layer.Procedure h b) where
      stays : (q : Qualified) (t : TypeNo) → named_type g here.0 q ≡ Ok t → named_type g (inwards w n) q ≡ Ok t
      stays q t e = named_stays g ends a first before d rest w behind no_withs q t e

      grown : (t : TypeNo) (x : Made) → made_at here.0.types t ≡ Some x → made_at w.types t ≡ Some x
      grown t x e = types t x ((to_last g ends a first before d rest).types t x e)

      abbrev stepped : Course g.Reported
      stepped = with_procedure g ends here h

      step_is : with_decl g ends here d ≡ stepped
      step_is = ap (λ (y : Decl-F Decl Block). decl_layer g ends here y) is

      through : declared_by g ends (course_begin g ends a first before d rest) (all g ends a first before d rest)
          ≡ declared_by g ends stepped rest
      through = declared_append g ends (course_begin g ends a first before d rest) before (d ∷ rest)
          ∙ ap (λ (c : Course g.Reported). declared_by g ends c rest) step_is

      abbrev headed_here : State (Unit {0}) g.Reported
      headed_here = headed_as g here.0 h here.2 (heading_of g here.0 h)
          (name_standing (find_name h.name.name here.0.own))

      step_fine : headed_here.1 ≡ Ok tt
      step_fine = beside_right g (names_of g h) headed_here.1
          (head_reported g ends here h (reported_back ends rest stepped
          (sym (ap (λ (c : Course g.Reported). c.1) through) ∙ fine)))

      to_end : Keeps stepped.0 last
      to_end = subst (λ (c : Course g.Reported). Keeps stepped.0 c.0) (sym through)
          ((block_changes g ends rest stepped).keeps)

      pub heading_stands : HeadingStands g w n h
      heading_stands =
          let x = made_by here.0 h here.2 (heading_of g here.0 h) (name_standing (find_name h.name.name here.0.own))
          step_fine in
          let signed = heading_signed g here.0 (inwards w n) stays grown h x.0 x.1 in
          let sig : Signature = record { formals = all_formals g (inwards w n) h.formals; result = signed.result } in
          let same : (y : Made) → heading_of g here.0 h ≡ Ok y → y.shape ≡ shape.Procedure sig =
          λ y e. (let z : x.0 ≡ y = ok_made x.0 y (sym x.1 ∙ e) in
          ap (λ (m : Made). m.shape) (sym z) ∙ signed.shape) in
          let leaves = left_by here.0 h here.2 (heading_of g here.0 h) sig
          (name_standing (find_name h.name.name here.0.own)) same step_fine in
          record {
            means = leaves.means;
            named = ap (λ (es : List (List ℕ × Known g.Reported)). find_name h.name.name es) behind.own
                ∙ to_end.settled h.name.name (Headed (Ok leaves.means)) refl leaves.named;
            heading = leaves.heading;
            is = leaves.is;
            made = leaves.made;
            there = types leaves.heading leaves.made (to_end.types leaves.heading leaves.made leaves.there);
            result = signed.result;
            gives = signed.gives;
            shape = leaves.shape;
          }
        where
          ok_made : (a b : Made) → ◌≡◌ {A = Result Made g.Reported} (Ok a) (Ok b) → a ≡ b
          ok_made a b e = cc

pub headings_stay : (g : Gathers) → HeadingsStay g
headings_stay g ends a first before d rest no_withs fine w behind types h b is =
    heading_stands g ends a first before d rest no_withs fine w behind types h b is
