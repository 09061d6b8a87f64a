-- Declarations of a module's block: a heading brings a procedure, or fills one that is awaited.
use Rattle.std.proofs.Common.{◌≡◌, ℕ, ◌==◌, Bool, true, false, cond, List, [], ◌∷◌, length, Result, Ok, Err, refl, ap, ◌++◌, ◌+◌, ◌≤◌, arith}
use Rattle.std.specs.List.{fold}
use Rattle.m2_tree.specs.declared.name.Ident.{Ident}
use Rattle.m2_tree.specs.declared.decl.Constant.{Constant}
use Rattle.m2_tree.specs.declared.decl.TypeDecl.{TypeDecl}
use Rattle.m2_tree.specs.declared.decl.Variables.{Variables}
use Rattle.m2_tree.specs.declared.decl.Heading.{Heading}
use Rattle.m2_tree.specs.declared.decl.Decl.{Decl, Decl-F, out-Decl}
use Rattle.m2_tree.specs.declared.decl.Decl.TheOpen as layer
use Rattle.typed_tree.specs.declared.meaning.Meaning.{Meaning}
use Rattle.typed_tree.specs.declared.meaning.Meaning.TheVariants as meaning
use Rattle.typed_tree.specs.declared.meaning.Value.{Value}
use Rattle.typed_tree.specs.declared.shape.Made.{Made}
use Rattle.typed_tree.specs.declared.types.TypeNo.{TypeNo}
use Rattle.typed_tree.specs.Names.{find_name, enter_name}
use Rattle.check_scope.specs.Elaborated.{Gathers}
use Rattle.check_scope.specs.Scopes.{State, begin_name, mark_name}
use Rattle.check_scope.specs.declared.known.Known.{Known}
use Rattle.check_scope.specs.declared.known.Known.TheVariants.{Later, Ahead, Headed}
use Rattle.check_scope.specs.declared.scope.Scope.{Scope}
use Rattle.check_scope.specs.declared.meaningless.Meaningless.TheVariants.{Headless}
use Rattle.check_scope.specs.Scopes.{heading_means}
use Rattle.check_const.specs.Parts.{constant}
use Rattle.check_expr.specs.Meanings.{part}
use Rattle.check_type_expr.specs.Headings.{heading_of}
use Rattle.check_type_expr.specs.Made.{type_of, next_type, with_shape}
use Rattle.check_definition.specs.Declare.{constant_meaning, with_constant, brings_with, type_meaning, with_type, begun_name, variable_meaning, local_meaning, with_variable_type, finished_variable, with_variables}
use Rattle.check_definition.specs.Marking.{marked_later, marked_constant, marked_type, marked_variables}
use Rattle.check_block.specs.declared.heading.Standing.{Standing}
use Rattle.check_block.specs.declared.heading.Standing.TheVariants.{Free, Awaited, Taken}
use Rattle.check_block.specs.Headings.{name_standing, nested_meaning, set_heading, module_procedure, with_new, headed_as, with_heading}
use Rattle.check_block.specs.Naming.{marked_layer, marked_decl, with_marks}
use Rattle.check_block.specs.Declarations.{finished_local, with_locals, Course, decl_layer, with_decl}
use Rattle.law_encoding.specs.Sizes.{sum_of}
use Rattle.law_encoding.proofs.Sums.{sum_append}
use Rattle.law_encoding.proofs.Awaited.{Names, standing_weight, awaiting, awaiting_of, HeadFits, Fills, Stays, stays_refl, stays_then, fills_then, known_fills, begun_stays, finished_stays, marked_stays}
use Rattle.law_encoding.proofs.AwaitedTypes.{later_all, marked_in_stays, type_of_stays}
use Rattle.law_well_formed.proofs.Names.{found_self}

-- what the heading of a declaration counts, if it is a procedure
abbrev pub count_of : {A B : Type 0} → (Heading → ℕ) → Decl-F A B → ℕ
count_of count (layer.Constants cs) = 0
count_of count (layer.Types ts) = 0
count_of count (layer.Variables vs) = 0
count_of count (layer.Procedure h b) = count h

abbrev pub all_counts : (Heading → ℕ) → List Decl → ℕ
all_counts count ds = sum_of (λ d. count_of count (out-Decl d)) ds

no_more : (a b : ℕ) → a + b ≤ 0 + a + b
no_more a b = omega arith

weaker : (n a b c d : ℕ) → a + b ≤ 0 + c + d → a + b ≤ n + c + d
weaker n a b c d h = omega (arith, h)

more_sum : (n a b e k w : ℕ) → b ≡ a + (w + 0) → w ≤ n → e ≤ k → b + e ≤ n + a + k
more_sum n a b e k w h i j = omega (arith, h, i, j)

from_stays : (a b c : ℕ) → a + b ≤ 0 + a + c → b ≤ c
from_stays a b c h = omega (arith, h)

free_sum : {n : ℕ} → n ≡ 0 → n ≤ 0
free_sum e = omega (arith, e)

awaited_sum : {n w k : ℕ} → n ≡ w → w ≤ k → n ≤ k
awaited_sum e h = omega (arith, e, h)

module _ (weight : TypeNo → ℕ) (g : Gathers) where
  abbrev Goes : Scope g.Reported → Scope g.Reported → Type 0
  Goes s s' = Stays weight s s'

  -- ---- constants and types

  constant_stays : (st : State (Unit {0}) g.Reported) (c : Constant) → Goes st.0 (with_constant g st c).0
  constant_stays st c =
      let b : Scope g.Reported = (begin_name g st.0 c.name).0 in
      let v : Result Value g.Reported = constant g b (part g c.value) in
      stays_then (begun_stays g st.0 c.name) (finished_stays b c.name (constant_meaning v))

  constants_stay : (cs : List Constant) (st : State (Unit {0}) g.Reported) → Goes st.0 (fold (with_constant g) st cs).0
  constants_stay [] st = stays_refl st.0
  constants_stay (c ∷ cs) st = stays_then (constant_stays st c) (constants_stay cs (with_constant g st c))

  type_stays : (st : State (Unit {0}) g.Reported) (d : TypeDecl) → Goes st.0 (with_type g st d).0
  type_stays st d =
      let b : Scope g.Reported = (begin_name g st.0 d.name).0 in
      let t : State TypeNo g.Reported = type_of g d.of b in
      stays_then (begun_stays g st.0 d.name)
      (stays_then (type_of_stays weight g d.of b) (finished_stays t.0 d.name (type_meaning t.1 (brings_with d.of))))

  types_stay : (ts : List TypeDecl) (st : State (Unit {0}) g.Reported) → Goes st.0 (fold (with_type g) st ts).0
  types_stay [] st = stays_refl st.0
  types_stay (t ∷ ts) st = stays_then (type_stays st t) (types_stay ts (with_type g st t))

  -- ---- variables

  begun_all : (names : List Ident) (st : State (Unit {0}) g.Reported) → Goes st.0 (fold (begun_name g) st names).0
  begun_all [] st = stays_refl st.0
  begun_all (x ∷ xs) st = stays_then (begun_stays g st.0 x) (begun_all xs (begun_name g st x))

  variable_type_stays : (s : Scope g.Reported) (t : Result TypeNo g.Reported) → Goes s (with_variable_type s t)
  variable_type_stays s (Err e) = stays_refl s
  variable_type_stays s (Ok t) = record { most = no_more (sum_of weight s.procedures) (awaiting weight s.own) }

  variable_stays : (t : Result TypeNo g.Reported) (s : Scope g.Reported) (name : Ident)
      → Goes s (finished_variable t s name)
  variable_stays t s name = stays_then (variable_type_stays s t)
      (finished_stays (with_variable_type s t) name (variable_meaning s.types.home (length s.variables) t))

  variables_all : (t : Result TypeNo g.Reported) (names : List Ident) (s : Scope g.Reported)
      → Goes s (fold (finished_variable t) s names)
  variables_all t [] s = stays_refl s
  variables_all t (x ∷ xs) s = stays_then (variable_stays t s x) (variables_all t xs (finished_variable t s x))

  variable_list : (st : State (Unit {0}) g.Reported) (v : Variables) → Goes st.0 (with_variables g st v).0
  variable_list st v =
      let b : State (Unit {0}) g.Reported = fold (begun_name g) st v.names in
      let t : State TypeNo g.Reported = type_of g v.of b.0 in
      stays_then (begun_all v.names st) (stays_then (type_of_stays weight g v.of b.0) (variables_all t.1 v.names t.0))

  variables_stay : (vs : List Variables) (st : State (Unit {0}) g.Reported)
      → Goes st.0 (fold (with_variables g) st vs).0
  variables_stay [] st = stays_refl st.0
  variables_stay (v ∷ vs) st = stays_then (variable_list st v) (variables_stay vs (with_variables g st v))

  local_stays : (t : Result TypeNo g.Reported) (s : Scope g.Reported) (name : Ident) → Goes s (finished_local t s name)
  local_stays t s name = stays_then (variable_type_stays s t)
      (finished_stays (with_variable_type s t) name (local_meaning s.level (length s.variables) t))

  locals_all : (t : Result TypeNo g.Reported) (names : List Ident) (s : Scope g.Reported)
      → Goes s (fold (finished_local t) s names)
  locals_all t [] s = stays_refl s
  locals_all t (x ∷ xs) s = stays_then (local_stays t s x) (locals_all t xs (finished_local t s x))

  local_list : (st : State (Unit {0}) g.Reported) (v : Variables) → Goes st.0 (with_locals g st v).0
  local_list st v =
      let b : State (Unit {0}) g.Reported = fold (begun_name g) st v.names in
      let t : State TypeNo g.Reported = type_of g v.of b.0 in
      stays_then (begun_all v.names st) (stays_then (type_of_stays weight g v.of b.0) (locals_all t.1 v.names t.0))

  locals_stay : (vs : List Variables) (st : State (Unit {0}) g.Reported) → Goes st.0 (fold (with_locals g) st vs).0
  locals_stay [] st = stays_refl st.0
  locals_stay (v ∷ vs) st = stays_then (local_list st v) (locals_stay vs (with_locals g st v))

  variables_by : (b : Bool) (st : State (Unit {0}) g.Reported) (vs : List Variables)
      → Goes st.0 (cond {A = State (Unit {0}) g.Reported} b (fold (with_variables g) st vs)
      (fold (with_locals g) st vs)).0
  variables_by true st vs = variables_stay vs st
  variables_by false st vs = locals_stay vs st

  -- ---- headings

  more_of : (n : ℕ) (s s' : Scope g.Reported) → Goes s s' → Fills weight n s s'
  more_of n s s' h = record {
    most = weaker n (sum_of weight s'.procedures) (awaiting weight s.own)
        (sum_of weight s.procedures) (awaiting weight s'.own) h.most;
  }

  new_fills : (s : Scope g.Reported) (name : List ℕ) (n : ℕ) (t : TypeNo) → weight t ≤ n → (es : Names g.Reported)
      → awaiting weight s.own ≤ awaiting weight es
      → Fills weight n s (record s { procedures = s.procedures ++ t ∷ []; own = es })
  new_fills s name n t h es k = record {
    most =
        more_sum n (sum_of weight s.procedures) _ (awaiting weight s.own) (awaiting weight es) (weight t)
        (sum_append weight s.procedures (t ∷ [])) h k;
  }

  unawaited : (s : Scope g.Reported) (name : List ℕ) (k : Known g.Reported)
      → awaiting_of weight (find_name name s.own) ≤ 0
      → awaiting weight s.own ≤ awaiting weight (enter_name name k s.own)
  unawaited s name k e = from_stays (sum_of weight s.procedures) (awaiting weight s.own) _
      ((known_fills {weight = weight} 0 s name k e).most)

  module_fills : (s : Scope g.Reported) (name : List ℕ) (n : ℕ) (t : Result TypeNo g.Reported)
      → awaiting_of weight (find_name name s.own) ≤ 0 → HeadFits weight n (module_procedure s name t).own name
      → Fills weight n s (module_procedure s name t)
  module_fills s name n (Ok t) e h =
      let m : Meaning = meaning.Procedure (record { home = s.types.home; number = length s.procedures; heading = t }) in
      new_fills s name n t (h m t (found_self name (Headed (Ok m)) s.own) refl) (enter_name name (Headed (Ok m)) s.own)
      (unawaited s name (Headed (Ok m)) e)
  module_fills s name n (Err x) e h = more_of n s _ (known_fills 0 s name (Headed (Err (Headless false x))) e)

  new_by : (b : Bool) (s : Scope g.Reported) (name : List ℕ) (n number : ℕ) (t : Result TypeNo g.Reported)
      → awaiting_of weight (find_name name s.own) ≤ 0
      → HeadFits weight n (cond b (module_procedure s name t)
      (set_heading name (heading_means true (nested_meaning s.level number t)) s)).own name
      → Fills weight n s (cond b (module_procedure s name t)
      (set_heading name (heading_means true (nested_meaning s.level number t)) s))
  new_by true s name n number t e h = module_fills s name n t e h
  new_by false s name n number t e h = more_of n s _
      (known_fills 0 s name (Headed (heading_means true (nested_meaning s.level number t))) e)

  made_fills : (s : Scope g.Reported) (name : List ℕ) (n number : ℕ) (made : Result Made g.Reported)
      → awaiting_of weight (find_name name s.own) ≤ 0 → HeadFits weight n (with_new s name number made).0.own name
      → Fills weight n s (with_new s name number made).0
  made_fills s name n number (Ok x) e h =
      record { most = (new_by (s.level == 0) (with_shape s x) name n number (Ok (next_type s)) e h).most }
  made_fills s name n number (Err x) e h = new_by (s.level == 0) s name n number (Err x) e h

  heading_by : (s : Scope g.Reported) (h : Heading) (n number : ℕ) (made : Result Made g.Reported) (o : Standing)
      → name_standing (find_name h.name.name s.own) ≡ o
      → HeadFits weight n (headed_as g s h number made o).0.own h.name.name
      → Fills weight n s (headed_as g s h number made o).0
  heading_by s h n number made Free e fits =
      made_fills s h.name.name n number made (free_sum (ap (standing_weight weight) e)) fits
  heading_by s h n number made (Awaited p) e fits =
      let m : Meaning = meaning.Procedure p in
      known_fills n s h.name.name (Headed (Ok m))
      (awaited_sum (ap (standing_weight weight) e)
      (fits m p.heading (found_self h.name.name (Headed (Ok m)) s.own) refl))
  heading_by s h n number made Taken e fits = more_of n s s (stays_refl s)

  heading_fills : (s : Scope g.Reported) (h : Heading) (n number : ℕ)
      → HeadFits weight n (with_heading g s number h).0.own h.name.name → Fills weight n s (with_heading g s number h).0
  heading_fills s h n number fits = heading_by s h n number (heading_of g s h)
      (name_standing (find_name h.name.name s.own)) refl fits

  -- ---- marks

  marked_constants : (cs : List Constant) (s : Scope g.Reported) → Goes s (fold marked_constant s cs)
  marked_constants [] s = stays_refl s
  marked_constants (c ∷ cs) s = stays_then (marked_stays s c.name Later) (marked_constants cs (marked_constant s c))

  one_type : (t : TypeDecl) (s : Scope g.Reported) → Goes s (marked_type s t)
  one_type t s = stays_then (marked_stays s t.name Later)
      (marked_in_stays weight g.Reported t.of (mark_name t.name Later s))

  marked_types : (ts : List TypeDecl) (s : Scope g.Reported) → Goes s (fold marked_type s ts)
  marked_types [] s = stays_refl s
  marked_types (t ∷ ts) s = stays_then (one_type t s) (marked_types ts (marked_type s t))

  one_list : (v : Variables) (s : Scope g.Reported) → Goes s (marked_variables s v)
  one_list v s = stays_then (later_all v.names s) (marked_in_stays weight g.Reported v.of (fold marked_later s v.names))

  marked_lists : (vs : List Variables) (s : Scope g.Reported) → Goes s (fold marked_variables s vs)
  marked_lists [] s = stays_refl s
  marked_lists (v ∷ vs) s = stays_then (one_list v s) (marked_lists vs (marked_variables s v))

  -- ---- a declaration of a block

  module _ (count : Heading → ℕ) where
    module _ {A B : Type 0} where
      -- the heading of a procedure counts no more under these names
      abbrev pub DeclFits : Names g.Reported → Decl-F A B → Type 0
      DeclFits es (layer.Constants cs) = Unit {0}
      DeclFits es (layer.Types ts) = Unit {0}
      DeclFits es (layer.Variables vs) = Unit {0}
      DeclFits es (layer.Procedure h b) = HeadFits weight (count h) es h.name.name

      decl_fills : (ends : List ℕ) (c : Course g.Reported) (y : Decl-F A B) → DeclFits (decl_layer g ends c y).0.own y
          → Fills weight (count_of count y) c.0 (decl_layer g ends c y).0
      decl_fills ends c (layer.Constants cs) fits = constants_stay cs (c.0, c.1)
      decl_fills ends c (layer.Types ts) fits = types_stay ts (c.0, c.1)
      decl_fills ends c (layer.Variables vs) fits = variables_by (c.0.level == 0) (c.0, c.1) vs
      decl_fills ends c (layer.Procedure h b) fits = heading_fills c.0 h (count h) c.2 fits

    -- so it does behind each of these declarations
    abbrev pub AllFit : (ends : List ℕ) → Course g.Reported → List Decl → Type 0
    AllFit ends c [] = Unit {0}
    AllFit ends c (d ∷ ds) = DeclFits (with_decl g ends c d).0.own (out-Decl d) × AllFit ends (with_decl g ends c d) ds

    pub decls_fill : (ends : List ℕ) (ds : List Decl) (c : Course g.Reported) → AllFit ends c ds
        → Fills weight (all_counts count ds) c.0 (fold (with_decl g ends) c ds).0
    decls_fill ends [] c fits = stays_refl c.0
    decls_fill ends (d ∷ ds) c fits = fills_then (decl_fills ends c (out-Decl d) fits.0)
        (decls_fill ends ds (with_decl g ends c d) fits.1)

  -- ---- a block

  module _ {A B : Type 0} where
    layer_stays : (s : Scope g.Reported) (y : Decl-F A B) → Goes s (marked_layer s y)
    layer_stays s (layer.Constants cs) = marked_constants cs s
    layer_stays s (layer.Types ts) = marked_types ts s
    layer_stays s (layer.Variables vs) = marked_lists vs s
    layer_stays s (layer.Procedure h b) = marked_stays s h.name Ahead

  pub marks_stay : (ds : List Decl) (st : Scope g.Reported × List ℕ) → Goes st.0 (fold (with_marks marked_decl) st ds).0
  marks_stay [] st = stays_refl st.0
  marks_stay (d ∷ ds) st = stays_then (layer_stays st.0 (out-Decl d)) (marks_stay ds (with_marks marked_decl st d))
