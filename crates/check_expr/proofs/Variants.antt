-- What each variant of an expression means, and what it is as a constant expression, from its parts.
use Rattle.std.proofs.Common.{◌≡◌, ℕ, suc, pos, length, List, [], ◌∷◌, Option, Some, None, Result, Ok, Err, refl, ap, sym, ◌∙◌}
use Rattle.std.specs.Prelude.{map}
use Rattle.std.specs.List.{fold}
use Rattle.m2_tree.specs.declared.pos.Pos.{Pos}
use Rattle.m2_tree.specs.declared.name.Ident.{Ident}
use Rattle.m2_tree.specs.declared.expr.MulOp.{MulOp}
use Rattle.m2_tree.specs.declared.expr.AddOp.{AddOp}
use Rattle.m2_tree.specs.declared.expr.RelOp.{RelOp}
use Rattle.m2_tree.specs.declared.expr.Sign.{Sign}
use Rattle.m2_tree.specs.declared.expr.Operator.{Operator}
use Rattle.m2_tree.specs.declared.expr.Expr.{Expr}
use Rattle.m2_tree.specs.declared.expr.Expr.TheOpen as layer
use Rattle.m2_tree.specs.declared.expr.Expr.TheVariants.{Number, Char, Text, Set, Not, Bracketed, Use, Term, Sum, Relation, outs-Number, outs-Char, outs-Text, outs-Set, outs-Not, outs-Bracketed, outs-Use, outs-Term, outs-Sum, outs-Relation}
use Rattle.m2_tree.specs.declared.expr.Selector.{Selector}
use Rattle.m2_tree.specs.declared.expr.Selector.TheVariants.{Field, Index, outs-Field, outs-Index}
use Rattle.m2_tree.specs.declared.expr.Designator.{Designator, out-Designator}
use Rattle.m2_tree.specs.declared.expr.Item.{Item, out-Item}
use Rattle.typed_tree.specs.declared.shape.Formal.{Formal}
use Rattle.typed_tree.specs.declared.computed.Argument.{Argument}
use Rattle.m2_rule.specs.declared.breach.Breach.{Breach}
use Rattle.check_scope.specs.declared.scope.Scope.{Scope}
use Rattle.typed_tree.specs.declared.known_types.Types.{Types}
use Rattle.check_scope.specs.declared.meaningless.Meaningless.{Meaningless}
use Rattle.check_scope.specs.Elaborated.{least, ◌▷◌}
use Rattle.typed_tree.specs.declared.types.TypeNo.{TypeNo}
use Rattle.typed_tree.specs.declared.meaning.Value.{Value}
use Rattle.typed_tree.specs.declared.meaning.Value.TheVariants as value
use Rattle.typed_tree.specs.Types.{char}
use Rattle.check_const.specs.Operands.{number_value}
use Rattle.check_const.specs.Operate as values
use Rattle.check_const.specs.declared.denoted.Denoted.{Denoted}
use Rattle.check_const.specs.declared.denoted.Denoted.TheVariants as denoted
use Rattle.check_const.specs.Denote.{of_value, component}
use Rattle.check_const.specs.Parts.{Part, Pick, Adds, constant, named_type, set_of, set_type, set_place, sign_place}
use Rattle.check_const.specs.Parts as constants
use Rattle.check_value.specs.declared.computed.Computed.{Computed}
use Rattle.check_value.specs.declared.computed.Designated.{Designated}
use Rattle.check_value.specs.Signs.{negation}
use Rattle.check_expr.specs.Meanings.{Meant, Picks, meanings_of, picks, head, item, part, type_of, names_by, with_look, breaches_in_all, look_in, value_standing, constant_factor_in, constant_term_in, constant_pick_in, item_in, of_computed, signed_first, relation, relation_value, first_name, field_at, index_at, as_constant, value_of, factor, term, call_in_expression, with_actual, factor_in, term_in, pick_in, actual_in, use_with}
use Rattle.check_expr.proofs.Layers.{at, at_selector, at_designator, at_item}

pub fold_mapped : {A X Y : Type 0} (f : A → Y → A) (h : X → Y) (a : A) (xs : List X)
    → fold f a (map h xs) ≡ fold (λ v x. f v (h x)) a xs
fold_mapped f h a [] = refl
fold_mapped f h a (x ∷ xs) = fold_mapped f h (f a (h x)) xs

map_mapped : {X Y Z : Type 0} (f : Y → Z) (h : X → Y) (xs : List X) → map f (map h xs) ≡ map (λ x. f (h x)) xs
map_mapped f h [] = refl
map_mapped f h (x ∷ xs) = ap (λ ys. f (h x) ∷ ys) (map_mapped f h xs)

names_mapped : {X Y R : Type 0} (f : X → Y) (xs : List X) (a b : R) → names_by (map f xs) a b ≡ names_by xs a b
names_mapped f [] a b = refl
names_mapped f (x ∷ xs) a b = refl

-- ---- places

pub at_Number : (p : Pos) (n : ℕ) → (part least (Number p n)).at ≡ p
at_Number p n = ap (λ (x : Meant Breach). x.fixed.at) (at (Number p n) (layer.Number p n) (outs-Number p n))

pub at_Char : (p : Pos) (n : ℕ) → (part least (Char p n)).at ≡ p
at_Char p n = ap (λ (x : Meant Breach). x.fixed.at) (at (Char p n) (layer.Char p n) (outs-Char p n))

pub at_Text : (p : Pos) (t : List ℕ) → (part least (Text p t)).at ≡ p
at_Text p t = ap (λ (x : Meant Breach). x.fixed.at) (at (Text p t) (layer.Text p t) (outs-Text p t))

pub at_Set : (q : Option Ident) (p : Pos) (items : List Item) → (part least (Set q p items)).at ≡ set_place q p
at_Set q p items = ap (λ (x : Meant Breach). x.fixed.at) (at (Set q p items) (layer.Set q p items) (outs-Set q p items))

pub at_Not : (p : Pos) (e : Expr) → (part least (Not p e)).at ≡ p
at_Not p e = ap (λ (x : Meant Breach). x.fixed.at) (at (Not p e) (layer.Not p e) (outs-Not p e))

pub at_Bracketed : (p : Pos) (e : Expr) → (part least (Bracketed p e)).at ≡ p
at_Bracketed p e = ap (λ (x : Meant Breach). x.fixed.at) (at (Bracketed p e) (layer.Bracketed p e) (outs-Bracketed p e))

pub at_Use : (d : Designator) (args : Option (List Expr)) → (part least (Use d args)).at ≡ (head least d).fixed.at
at_Use d None = ap (λ (x : Meant Breach). x.fixed.at) (at (Use d None) (layer.Use d None) (outs-Use d None))
at_Use d (Some es) = ap (λ (x : Meant Breach). x.fixed.at)
    (at (Use d (Some es)) (layer.Use d (Some es)) (outs-Use d (Some es)))

pub at_Term : (e : Expr) (rest : List (Operator MulOp × Expr)) → (part least (Term e rest)).at ≡ (part least e).at
at_Term e rest = ap (λ (x : Meant Breach). x.fixed.at) (at (Term e rest) (layer.Term e rest) (outs-Term e rest))

pub at_Sum : (o : Option (Operator Sign)) (e : Expr) (rest : List (Operator AddOp × Expr))
    → (part least (Sum o e rest)).at ≡ sign_place o (part least e).at
at_Sum o e rest = ap (λ (x : Meant Breach). x.fixed.at) (at (Sum o e rest) (layer.Sum o e rest) (outs-Sum o e rest))

pub at_Relation : (a : Expr) (o : Operator RelOp) (b : Expr) → (part least (Relation a o b)).at ≡ (part least a).at
at_Relation a o b = ap (λ (x : Meant Breach). x.fixed.at)
    (at (Relation a o b) (layer.Relation a o b) (outs-Relation a o b))

pub head_at : (d : Designator) → (head least d).fixed.at ≡ (out-Designator d).name.pos
head_at d = ap (λ (x : Meant Breach). x.fixed.at) (at_designator d (out-Designator d) refl)

pub ruleset places = (
  at_Number,
  at_Char,
  at_Text,
  at_Set,
  at_Not,
  at_Bracketed,
  at_Use,
  at_Term,
  at_Sum,
  at_Relation,
  head_at,
)

module _ (s : Scope Breach) where
  -- ---- selectors and designators

  pub picks_Field : (p : Pos) (x : Ident) (d : Result Designated (Meaningless Breach))
      → (picks least (Field p x)).picks s d ≡ field_at least s p x d
  picks_Field p x d = ap (λ (f : Picks Breach). f.picks s d)
      (at_selector (Field p x) (layer.Field p x) (outs-Field p x))

  pub picks_Index : (p : Pos) (e : Expr) (d : Result Designated (Meaningless Breach))
      → (picks least (Index p e)).picks s d ≡ index_at least s.types p d (meanings_of least e).fixed.at
      (value_of least s (meanings_of least e))
  picks_Index p e d = ap (λ (f : Picks Breach). f.picks s d)
      (at_selector (Index p e) (layer.Index p e) (outs-Index p e))

  pub means_head : (d : Designator) → (head least d).means s
      ≡ fold (pick_in s) (first_name least s (out-Designator d).name) (out-Designator d).selectors
  means_head d = ap (λ (x : Meant Breach). x.means s) (at_designator d (out-Designator d) refl)
      ∙ fold_mapped (λ x (p : Picks Breach). p.picks s x) (picks least)
      (first_name least s (out-Designator d).name) (out-Designator d).selectors

  -- ---- expressions

  pub means_Number : (p : Pos) (n : ℕ) → (meanings_of least (Number p n)).means s
      ≡ as_constant least s (meanings_of least (Number p n)).fixed
  means_Number p n = let e = at (Number p n) (layer.Number p n) (outs-Number p n) in
      ap (λ (x : Meant Breach). x.means s) e ∙ ap (λ (x : Meant Breach). as_constant least s x.fixed) (sym e)

  pub means_Char : (p : Pos) (n : ℕ) → (meanings_of least (Char p n)).means s
      ≡ as_constant least s (meanings_of least (Char p n)).fixed
  means_Char p n = let e = at (Char p n) (layer.Char p n) (outs-Char p n) in
      ap (λ (x : Meant Breach). x.means s) e ∙ ap (λ (x : Meant Breach). as_constant least s x.fixed) (sym e)

  pub means_Text : (p : Pos) (t : List ℕ)
      → (meanings_of least (Text p t)).means s ≡ as_constant least s (meanings_of least (Text p t)).fixed
  means_Text p t = let e = at (Text p t) (layer.Text p t) (outs-Text p t) in
      ap (λ (x : Meant Breach). x.means s) e ∙ ap (λ (x : Meant Breach). as_constant least s x.fixed) (sym e)

  pub means_Set : (q : Option Ident) (p : Pos) (items : List Item)
      → (meanings_of least (Set q p items)).means s ≡ as_constant least s (meanings_of least (Set q p items)).fixed
  means_Set q p items = let e = at (Set q p items) (layer.Set q p items) (outs-Set q p items) in
      ap (λ (x : Meant Breach). x.means s) e ∙ ap (λ (x : Meant Breach). as_constant least s x.fixed) (sym e)

  pub means_Not : (p : Pos) (e : Expr) → (meanings_of least (Not p e)).means s
      ≡ of_computed (negation least p (value_of least s (meanings_of least e)))
  means_Not p e = ap (λ (x : Meant Breach). x.means s) (at (Not p e) (layer.Not p e) (outs-Not p e))

  pub means_Bracketed : (p : Pos) (e : Expr)
      → (meanings_of least (Bracketed p e)).means s ≡ of_computed (value_of least s (meanings_of least e))
  means_Bracketed p e = ap (λ (x : Meant Breach). x.means s)
      (at (Bracketed p e) (layer.Bracketed p e) (outs-Bracketed p e))

  pub means_Use : (d : Designator) (args : Option (List Expr))
      → (meanings_of least (Use d args)).means s ≡ use_with s (head least d) args
  means_Use d None = ap (λ (x : Meant Breach). x.means s) (at (Use d None) (layer.Use d None) (outs-Use d None))
  means_Use d (Some es) = ap (λ (x : Meant Breach). x.means s)
      (at (Use d (Some es)) (layer.Use d (Some es)) (outs-Use d (Some es)))

  pub means_Term : (e : Expr) (rest : List (Operator MulOp × Expr))
      → (meanings_of least (Term e rest)).means s
      ≡ of_computed (fold (factor_in s (meanings_of least e).fixed.at) (value_of least s (meanings_of least e)) rest)
  means_Term e rest = ap (λ (x : Meant Breach). x.means s) (at (Term e rest) (layer.Term e rest) (outs-Term e rest))
      ∙ ap of_computed (fold_mapped (factor least s (meanings_of least e).fixed.at) (λ x. (x.0, meanings_of least x.1))
      (value_of least s (meanings_of least e)) rest)

  pub means_Sum : (o : Option (Operator Sign)) (e : Expr) (rest : List (Operator AddOp × Expr)) →
      (meanings_of least (Sum o e rest)).means s
      ≡ of_computed (fold (term_in s (sign_place o (meanings_of least e).fixed.at))
      (signed_first least o (value_of least s (meanings_of least e))) rest)
  means_Sum o e rest = ap (λ (x : Meant Breach). x.means s) (at (Sum o e rest) (layer.Sum o e rest) (outs-Sum o e rest))
      ∙ ap of_computed (fold_mapped (term least s (sign_place o (meanings_of least e).fixed.at))
      (λ x. (x.0, meanings_of least x.1)) (signed_first least o (value_of least s (meanings_of least e))) rest)

  pub means_Relation : (a : Expr) (o : Operator RelOp) (b : Expr)
      → (meanings_of least (Relation a o b)).means s
      ≡ of_computed (relation least s (meanings_of least a) o (meanings_of least b))
  means_Relation a o b = ap (λ (x : Meant Breach). x.means s)
      (at (Relation a o b) (layer.Relation a o b) (outs-Relation a o b))

-- ---- what is computed is its own value

value_again : (types : Types) (p : Pos) (v : Result Computed Breach) → value_standing least types p (of_computed v) ≡ v
value_again types p (Ok v) = refl
value_again types p (Err b) = refl

value_by : (s : Scope Breach) (e : Expr) (v : Result Computed Breach) → (meanings_of least e).means s ≡ of_computed v
    → value_of least s (meanings_of least e) ≡ v
value_by s e v h = ap (value_standing least s.types (meanings_of least e).fixed.at) h
    ∙ value_again s.types (meanings_of least e).fixed.at v

module _ (s : Scope Breach) where
  pub value_Not : (p : Pos) (e : Expr) → value_of least s (meanings_of least (Not p e))
      ≡ negation least p (value_of least s (meanings_of least e))
  value_Not p e = value_by s (Not p e) _ (means_Not s p e)

  pub value_Bracketed : (p : Pos) (e : Expr)
      → value_of least s (meanings_of least (Bracketed p e)) ≡ value_of least s (meanings_of least e)
  value_Bracketed p e = value_by s (Bracketed p e) _ (means_Bracketed s p e)

  pub value_Term : (e : Expr) (rest : List (Operator MulOp × Expr)) →
      value_of least s (meanings_of least (Term e rest))
      ≡ fold (factor_in s (meanings_of least e).fixed.at) (value_of least s (meanings_of least e)) rest
  value_Term e rest = value_by s (Term e rest) _ (means_Term s e rest)

  pub value_Sum : (o : Option (Operator Sign)) (e : Expr) (rest : List (Operator AddOp × Expr)) →
      value_of least s (meanings_of least (Sum o e rest))
      ≡ fold (term_in s (sign_place o (meanings_of least e).fixed.at))
      (signed_first least o (value_of least s (meanings_of least e))) rest
  value_Sum o e rest = value_by s (Sum o e rest) _ (means_Sum s o e rest)

  pub value_Relation : (a : Expr) (o : Operator RelOp) (b : Expr)
      → value_of least s (meanings_of least (Relation a o b))
      ≡ relation least s (meanings_of least a) o (meanings_of least b)
  value_Relation a o b = value_by s (Relation a o b) _ (means_Relation s a o b)

  pub value_Call : (d : Designator) (es : List Expr)
      → value_of least s (meanings_of least (Use d (Some es)))
      ≡ call_in_expression least s (head least d).fixed.at ((head least d).means s) (map (meanings_of least) es)
  value_Call d es = value_by s (Use d (Some es)) _ (means_Use s d (Some es))

pub ruleset value_rules = (value_Call, value_Not, value_Bracketed, value_Term, value_Sum, value_Relation)

-- ---- constant expressions

abbrev pub opened_high : Option Expr → Option (Part Breach)
opened_high None = None
opened_high (Some e) = Some (part least e)

item_at : (i : Item) (low : Expr) (high : Option Expr) → out-Item i ≡ record { low = low; high = high }
    → (s : Scope Breach) → item least i s ≡ constants.element_or_range least s (part least low) (opened_high high)
item_at i low None h s = ap (λ (f : Adds Breach). f s) (at_item i (record { low = low; high = None }) h)
item_at i low (Some e) h s = ap (λ (f : Adds Breach). f s) (at_item i (record { low = low; high = Some e }) h)

abbrev pub constants_if : Option (List Expr) → Option (List (Part Breach))
constants_if None = None
constants_if (Some es) = Some (map (part least) es)

module _ (s : Scope Breach) where
  pub adds_is : (i : Item) → item least i s
      ≡ constants.element_or_range least s (part least (out-Item i).low) (opened_high (out-Item i).high)
  adds_is i = item_at i (out-Item i).low (out-Item i).high refl s

  pub fixed_Field : (p : Pos) (x : Ident) (d : Result Denoted Breach)
      → (picks least (Field p x)).fixed s d ≡ (d ▷ constants.field_of least s p x)
  fixed_Field p x d = ap (λ (f : Picks Breach). f.fixed s d)
      (at_selector (Field p x) (layer.Field p x) (outs-Field p x))

  pub fixed_Index : (p : Pos) (e : Expr) (d : Result Denoted Breach)
      → (picks least (Index p e)).fixed s d ≡ (d ▷ component least p)
  fixed_Index p e d = ap (λ (f : Picks Breach). f.fixed s d)
      (at_selector (Index p e) (layer.Index p e) (outs-Index p e))

  picked_is : (r : Result Denoted Breach) (xs : List Selector)
      → fold (λ x p. p s x) r (map (λ (p : Picks Breach). p.fixed) (map (picks least) xs))
      ≡ fold (constant_pick_in s) r xs
  picked_is r xs = fold_mapped (λ x (p : Pick Breach). p s x) (λ (p : Picks Breach). p.fixed) r (map (picks least) xs)
      ∙ fold_mapped (λ x (p : Picks Breach). p.fixed s x) (picks least) r xs

  pub denotes_head : (d : Designator) → (head least d).fixed.denotes s
      ≡ fold (constant_pick_in s) (constants.first_name least s (out-Designator d).name) (out-Designator d).selectors
  denotes_head d = ap (λ (x : Meant Breach). x.fixed.denotes s) (at_designator d (out-Designator d) refl)
      ∙ picked_is (constants.first_name least s (out-Designator d).name) (out-Designator d).selectors

  pub denotes_Number : (p : Pos) (n : ℕ) → (part least (Number p n)).denotes s
      ≡ Ok (denoted.Value (value.Number (pos n)))
  denotes_Number p n = ap (λ (x : Meant Breach). x.fixed.denotes s)
      (at (Number p n) (layer.Number p n) (outs-Number p n))

  pub denotes_Char : (p : Pos) (n : ℕ) → (part least (Char p n)).denotes s
      ≡ Ok (denoted.Value (number_value (Some char) (pos n)))
  denotes_Char p n = ap (λ (x : Meant Breach). x.fixed.denotes s) (at (Char p n) (layer.Char p n) (outs-Char p n))

  pub denotes_Text : (p : Pos) (t : List ℕ) → (part least (Text p t)).denotes s ≡ Ok (denoted.Value (value.Text t))
  denotes_Text p t = ap (λ (x : Meant Breach). x.fixed.denotes s) (at (Text p t) (layer.Text p t) (outs-Text p t))

  items_are : (items : List Item) → fold (constants.with_item least s) (Ok 0)
      (map (λ (a : Adds Breach). a) (map (item least) items)) ≡ fold (item_in s) (Ok 0) items
  items_are items = fold_mapped (constants.with_item least s) (λ (a : Adds Breach). a) (Ok 0) (map (item least) items)
      ∙ fold_mapped (constants.with_item least s) (item least) (Ok 0) items

  pub denotes_Set : (q : Option Ident) (p : Pos) (items : List Item)
      → (part least (Set q p items)).denotes s ≡ set_of least (set_type least s q) (fold (item_in s) (Ok 0) items)
  denotes_Set q p items = ap (λ (x : Meant Breach). x.fixed.denotes s)
      (at (Set q p items) (layer.Set q p items) (outs-Set q p items))
      ∙ ap (λ (b : Result ℕ Breach). set_of least (set_type least s q) b) (items_are items)

  pub denotes_Not : (p : Pos) (e : Expr) → (part least (Not p e)).denotes s
      ≡ of_value (values.negation least p (constant least s (part least e)))
  denotes_Not p e = ap (λ (x : Meant Breach). x.fixed.denotes s) (at (Not p e) (layer.Not p e) (outs-Not p e))

  pub denotes_Bracketed : (p : Pos) (e : Expr)
      → (part least (Bracketed p e)).denotes s ≡ of_value (constant least s (part least e))
  denotes_Bracketed p e = ap (λ (x : Meant Breach). x.fixed.denotes s)
      (at (Bracketed p e) (layer.Bracketed p e) (outs-Bracketed p e))

  pub denotes_Use : (d : Designator) (args : Option (List Expr))
      → (part least (Use d args)).denotes s ≡
      (constants.used_with least (head least d).fixed (constants_if args)).denotes s
  denotes_Use d None = ap (λ (x : Meant Breach). x.fixed.denotes s)
      (at (Use d None) (layer.Use d None) (outs-Use d None))
  denotes_Use d (Some es) = ap (λ (x : Meant Breach). x.fixed.denotes s)
      (at (Use d (Some es)) (layer.Use d (Some es)) (outs-Use d (Some es)))
      ∙ ap (λ (xs : List (Part Breach)). of_value
      (constants.call_value least s (head least d).fixed.at ((head least d).fixed.denotes s) xs))
      (map_mapped (λ (x : Meant Breach). x.fixed) (meanings_of least) es)

  factors_are : (p : Pos) (v : Result Value Breach) (rest : List (Operator MulOp × Expr)) →
      fold (constants.factor least s p) v (map (λ (x : Operator MulOp × Meant Breach). (x.0, x.1.fixed))
      (map (λ (x : Operator MulOp × Expr). (x.0, meanings_of least x.1)) rest))
      ≡ fold (constant_factor_in s p) v rest
  factors_are p v rest = fold_mapped (constants.factor least s p)
      (λ (x : Operator MulOp × Meant Breach). (x.0, x.1.fixed)) v
      (map (λ (x : Operator MulOp × Expr). (x.0, meanings_of least x.1)) rest)
      ∙ fold_mapped (λ (w : Result Value Breach) (x : Operator MulOp × Meant Breach). constants.factor least s p w
      (x.0, x.1.fixed)) (λ (x : Operator MulOp × Expr). (x.0, meanings_of least x.1)) v rest

  terms_are : (p : Pos) (v : Result Value Breach) (rest : List (Operator AddOp × Expr)) →
      fold (constants.term least s p) v (map (λ (x : Operator AddOp × Meant Breach). (x.0, x.1.fixed))
      (map (λ (x : Operator AddOp × Expr). (x.0, meanings_of least x.1)) rest)) ≡ fold (constant_term_in s p) v rest
  terms_are p v rest = fold_mapped (constants.term least s p) (λ (x : Operator AddOp × Meant Breach). (x.0, x.1.fixed))
      v (map (λ (x : Operator AddOp × Expr). (x.0, meanings_of least x.1)) rest)
      ∙ fold_mapped (λ (w : Result Value Breach) (x : Operator AddOp × Meant Breach). constants.term least s p w
      (x.0, x.1.fixed)) (λ (x : Operator AddOp × Expr). (x.0, meanings_of least x.1)) v rest

  pub denotes_Term : (e : Expr) (rest : List (Operator MulOp × Expr))
      → (part least (Term e rest)).denotes s
      ≡ of_value (fold (constant_factor_in s (part least e).at) (constant least s (part least e)) rest)
  denotes_Term e rest = ap (λ (x : Meant Breach). x.fixed.denotes s)
      (at (Term e rest) (layer.Term e rest) (outs-Term e rest))
      ∙ ap of_value (factors_are (part least e).at (constant least s (part least e)) rest)

  pub denotes_Sum : (o : Option (Operator Sign)) (e : Expr) (rest : List (Operator AddOp × Expr)) →
      (part least (Sum o e rest)).denotes s ≡ of_value
      (fold (constant_term_in s (sign_place o (part least e).at))
      (constants.signed_first least o (constant least s (part least e))) rest)
  denotes_Sum o e rest = ap (λ (x : Meant Breach). x.fixed.denotes s)
      (at (Sum o e rest) (layer.Sum o e rest) (outs-Sum o e rest))
      ∙ ap of_value (terms_are (sign_place o (part least e).at)
      (constants.signed_first least o (constant least s (part least e))) rest)

  pub denotes_Relation : (a : Expr) (o : Operator RelOp) (b : Expr) → (part least (Relation a o b)).denotes s
      ≡ constants.relation_value least o (part least a).at (constant least s (part least a)) (part least b).at
      (constant least s (part least b))
  denotes_Relation a o b = ap (λ (x : Meant Breach). x.fixed.denotes s)
      (at (Relation a o b) (layer.Relation a o b) (outs-Relation a o b))

  -- ---- the types that they name

  names_of : (e : Expr) (p : Pos) (m : Scope Breach → Result Denoted Breach) → part least e ≡ constants.standing p m
      → (part least e).names s ≡ named_type ((part least e).denotes s)
  names_of e p m h = ap (λ (x : Part Breach). x.names s) h
      ∙ ap named_type (sym (ap (λ (x : Part Breach). x.denotes s) h))

  pub names_Number : (p : Pos) (n : ℕ) → (part least (Number p n)).names s
      ≡ named_type ((part least (Number p n)).denotes s)
  names_Number p n = names_of (Number p n) _ _
      (ap (λ (x : Meant Breach). x.fixed) (at (Number p n) (layer.Number p n) (outs-Number p n)))

  pub names_Char : (p : Pos) (n : ℕ) → (part least (Char p n)).names s ≡ named_type ((part least (Char p n)).denotes s)
  names_Char p n = names_of (Char p n) _ _
      (ap (λ (x : Meant Breach). x.fixed) (at (Char p n) (layer.Char p n) (outs-Char p n)))

  pub names_Text : (p : Pos) (t : List ℕ)
      → (part least (Text p t)).names s ≡ named_type ((part least (Text p t)).denotes s)
  names_Text p t = names_of (Text p t) _ _
      (ap (λ (x : Meant Breach). x.fixed) (at (Text p t) (layer.Text p t) (outs-Text p t)))

  pub names_Set : (q : Option Ident) (p : Pos) (items : List Item)
      → (part least (Set q p items)).names s ≡ named_type ((part least (Set q p items)).denotes s)
  names_Set q p items = names_of (Set q p items) _ _
      (ap (λ (x : Meant Breach). x.fixed) (at (Set q p items) (layer.Set q p items) (outs-Set q p items)))

  pub names_Not : (p : Pos) (e : Expr) → (part least (Not p e)).names s ≡ named_type ((part least (Not p e)).denotes s)
  names_Not p e = names_of (Not p e) _ _ (ap (λ (x : Meant Breach). x.fixed)
      (at (Not p e) (layer.Not p e) (outs-Not p e)))

  pub names_Bracketed : (p : Pos) (e : Expr)
      → (part least (Bracketed p e)).names s ≡ named_type ((part least (Bracketed p e)).denotes s)
  names_Bracketed p e = names_of (Bracketed p e) _ _
      (ap (λ (x : Meant Breach). x.fixed) (at (Bracketed p e) (layer.Bracketed p e) (outs-Bracketed p e)))

  pub names_Term : (e : Expr) (rest : List (Operator MulOp × Expr))
      → (part least (Term e rest)).names s ≡ named_type ((part least (Term e rest)).denotes s)
  names_Term e rest = names_of (Term e rest) _ _
      (ap (λ (x : Meant Breach). x.fixed) (at (Term e rest) (layer.Term e rest) (outs-Term e rest)))

  pub names_Sum : (o : Option (Operator Sign)) (e : Expr) (rest : List (Operator AddOp × Expr))
      → (part least (Sum o e rest)).names s ≡ named_type ((part least (Sum o e rest)).denotes s)
  names_Sum o e rest = names_of (Sum o e rest) _ _
      (ap (λ (x : Meant Breach). x.fixed) (at (Sum o e rest) (layer.Sum o e rest) (outs-Sum o e rest)))

  pub names_Relation : (a : Expr) (o : Operator RelOp) (b : Expr)
      → (part least (Relation a o b)).names s ≡ named_type ((part least (Relation a o b)).denotes s)
  names_Relation a o b = names_of (Relation a o b) _ _
      (ap (λ (x : Meant Breach). x.fixed) (at (Relation a o b) (layer.Relation a o b) (outs-Relation a o b)))

  abbrev pub names_used : Designator → Option (List Expr) → Result (Option TypeNo) Breach
  names_used d None = (head least d).fixed.names s
  names_used d (Some es) = named_type ((part least (Use d (Some es))).denotes s)

  pub names_Use : (d : Designator) (args : Option (List Expr)) → (part least (Use d args)).names s ≡ names_used d args
  names_Use d None = ap (λ (x : Meant Breach). x.fixed.names s) (at (Use d None) (layer.Use d None) (outs-Use d None))
  names_Use d (Some es) = names_of (Use d (Some es)) _ _
      (ap (λ (x : Meant Breach). x.fixed) (at (Use d (Some es)) (layer.Use d (Some es)) (outs-Use d (Some es))))

  names_are : (d : Designator) (m : Meant Breach) → head least d ≡ m → (a b : Result (Option TypeNo) Breach) →
      m.fixed.names s ≡ names_by (map (picks least) (out-Designator d).selectors) a b
      → (head least d).fixed.names s ≡ names_by (out-Designator d).selectors a b
  names_are d m h a b q = ap (λ (x : Meant Breach). x.fixed.names s) h ∙ q
      ∙ names_mapped (picks least) (out-Designator d).selectors a b

  pub names_head : (d : Designator) → (head least d).fixed.names s
      ≡ names_by (out-Designator d).selectors (named_type ((head least d).fixed.denotes s))
      (type_of least (head least d).fixed.at ((head least d).means s))
  names_head d =
      let h = at_designator d (out-Designator d) refl in
      names_are d _ h _ _ refl
      ∙ ap (λ (x : Meant Breach). names_by (out-Designator d).selectors (named_type (x.fixed.denotes s))
      (type_of least x.fixed.at (x.means s))) (sym h)

pub count_is : (es : List Expr) → length (map (meanings_of least) es) ≡ length es
count_is [] = refl
count_is (e ∷ es) = ap suc (count_is es)

pub actuals_is : (s : Scope Breach) (fs : List Formal) (es : List Expr)
    → (fold (with_actual least s) (fs, Ok []) (map (meanings_of least) es)).1 ≡ (fold (actual_in s) (fs, Ok []) es).1
actuals_is s fs es = ap (λ (st : List Formal × Result (List Argument) Breach). st.1)
    (fold_mapped (with_actual least s) (meanings_of least) (fs, Ok []) es)

pub looks_is : (s : Scope Breach) (es : List Expr)
    → breaches_in_all least s (map (meanings_of least) es) ≡ fold (look_in s) (Ok tt) es
looks_is s es = fold_mapped (with_look least s) (meanings_of least) (Ok tt) es

pub ruleset variants = (
  at_Use,
  head_at,
  picks_Field,
  picks_Index,
  means_head,
  means_Number,
  means_Char,
  means_Text,
  means_Set,
  means_Not,
  means_Bracketed,
  means_Use,
  means_Term,
  means_Sum,
  means_Relation,
  fixed_Field,
  fixed_Index,
  denotes_head,
  denotes_Number,
  denotes_Char,
  denotes_Text,
  denotes_Set,
  denotes_Not,
  denotes_Bracketed,
  denotes_Use,
  denotes_Term,
  denotes_Sum,
  denotes_Relation,
)

pub ruleset naming = (
  names_Number,
  names_Char,
  names_Text,
  names_Set,
  names_Not,
  names_Bracketed,
  names_Use,
  names_Term,
  names_Sum,
  names_Relation,
  names_head,
)

pub relation_is : (s : Scope Breach) (e a : Expr) (o : Operator RelOp) (b a1 b1 : Expr) (r : Result Denoted Breach)
    (x y : Result Value Breach)
    → e ≡ Relation a o b → a1 ≡ a → b1 ≡ b → x ≡ constant least s (part least a1) → y ≡ constant least s (part least b1)
    → r ≡ constants.relation_value least o (part least a1).at x (part least b1).at y → r ≡ (part least e).denotes s
relation_is s e a o b a1 b1 r x y h h1 h2 hx hy hr =
    hr ∙ ap (λ (x : Result Value Breach). constants.relation_value least o (part least a1).at x (part least b1).at y) hx
    ∙ ap (λ (y : Result Value Breach). constants.relation_value least o (part least a1).at
    (constant least s (part least a1)) (part least b1).at y) hy
    ∙ ap (λ (c : Expr). constants.relation_value least o (part least c).at (constant least s (part least c))
    (part least b1).at (constant least s (part least b1))) h1
    ∙ ap (λ (c : Expr). constants.relation_value least o (part least a).at (constant least s (part least a))
    (part least c).at (constant least s (part least c))) h2
    ∙ sym (denotes_Relation s a o b) ∙ ap (λ (e : Expr). (part least e).denotes s) (sym h)

-- what stands for its value, if it is this expression
pub stands_by : (s : Scope Breach) (e x : Expr) (d : Result Designated (Meaningless Breach))
    (v : Result Computed Breach)
    → (meanings_of least x).means s ≡ of_computed v → value_of least s (meanings_of least x) ≡ v → e ≡ x
    → d ≡ of_computed (value_of least s (meanings_of least e)) → d ≡ (meanings_of least e).means s
stands_by s e x d v m w h q =
    q ∙ ap (λ (e : Expr). of_computed (value_of least s (meanings_of least e))) h ∙ ap of_computed w ∙ sym m
    ∙ ap (λ (e : Expr). (meanings_of least e).means s) (sym h)

-- the same of values
pub relation_by : (s : Scope Breach) (e a : Expr) (o : Operator RelOp) (b a1 b1 : Expr) (v x y : Result Computed Breach)
    → e ≡ Relation a o b → a1 ≡ a → b1 ≡ b → x ≡ value_of least s (meanings_of least a1)
    → y ≡ value_of least s (meanings_of least b1)
    → v ≡ relation_value least s.types o (meanings_of least a1).fixed.at x (meanings_of least b1).fixed.at y
    → v ≡ value_of least s (meanings_of least e)
relation_by s e a o b a1 b1 v x y h h1 h2 hx hy hv =
    hv ∙ ap (λ (x : Result Computed Breach). relation_value least s.types o (meanings_of least a1).fixed.at x
    (meanings_of least b1).fixed.at y) hx
    ∙ ap (λ (y : Result Computed Breach). relation_value least s.types o (meanings_of least a1).fixed.at
    (value_of least s (meanings_of least a1)) (meanings_of least b1).fixed.at y) hy
    ∙ ap (λ (c : Expr). relation_value least s.types o (meanings_of least c).fixed.at
    (value_of least s (meanings_of least c)) (meanings_of least b1).fixed.at
    (value_of least s (meanings_of least b1))) h1
    ∙ ap (λ (c : Expr). relation_value least s.types o (meanings_of least a).fixed.at
    (value_of least s (meanings_of least a)) (meanings_of least c).fixed.at
    (value_of least s (meanings_of least c))) h2
    ∙ sym (value_Relation s a o b) ∙ ap (λ (e : Expr). value_of least s (meanings_of least e)) (sym h)

-- the same of NOT, and of sums
pub not_by : (s : Scope Breach) (e a a1 : Expr) (p : Pos) (x v : Result Computed Breach)
    → e ≡ Not p a → a1 ≡ a → x ≡ value_of least s (meanings_of least a1) → v ≡ negation least p x
    → v ≡ value_of least s (meanings_of least e)
not_by s e a a1 p x v h h1 hx hv =
    hv ∙ ap (λ (x : Result Computed Breach). negation least p x)
    (hx ∙ ap (λ (c : Expr). value_of least s (meanings_of least c)) h1)
    ∙ sym (value_Not s p a) ∙ ap (λ (e : Expr). value_of least s (meanings_of least e)) (sym h)

pub sum_by : (s : Scope Breach) (e a a1 a2 : Expr) (o : Option (Operator Sign))
    (rest rest1 : List (Operator AddOp × Expr)) (x y v : Result Computed Breach) (p q : Pos)
    → e ≡ Sum o a rest → a1 ≡ a → a2 ≡ a → rest1 ≡ rest → x ≡ value_of least s (meanings_of least a1)
    → y ≡ signed_first least o x
    → p ≡ (part least a2).at → q ≡ sign_place o p → v ≡ fold (term_in s q) y rest1
    → v ≡ value_of least s (meanings_of least e)
sum_by s e a a1 a2 o rest rest1 x y v p q h h1 h2 hr hx hy hp hq hv =
    hv ∙ ap (λ (r : List (Operator AddOp × Expr)). fold (term_in s q) y r) hr
    ∙ ap (λ (p : Pos). fold (term_in s p) y rest)
    (hq ∙ ap (λ (p : Pos). sign_place o p) (hp ∙ ap (λ (c : Expr). (part least c).at) h2))
    ∙ ap (λ (y : Result Computed Breach). fold (term_in s (sign_place o (part least a).at)) y rest)
    (hy ∙ ap (λ (x : Result Computed Breach). signed_first least o x)
    (hx ∙ ap (λ (c : Expr). value_of least s (meanings_of least c)) h1))
    ∙ sym (value_Sum s o a rest) ∙ ap (λ (e : Expr). value_of least s (meanings_of least e)) (sym h)
