-- Formals as the scheme and the definition of a run see them, by how they are passed.
use Rattle.std.proofs.Common.{◌≡◌, ℕ, suc, ◌+◌, ◌*◌, ℤ, Bool, true, false, List, [], ◌∷◌, ◌++◌, map, length, if◌then◌else◌, refl, sym, ap, ◌∙◌, arith}
use Rattle.wasm_tree.specs.declared.instr.Instr.{Instr}
use Rattle.wasm_tree.specs.declared.instr.Instr.TheVariants.{LocalGet}
use Rattle.wasm_tree.specs.declared.store.Value.{Value}
use Rattle.typed_tree.specs.declared.shape.Formal.{Formal}
use Rattle.typed_tree.specs.declared.types.TypeNo.{TypeNo}
use Rattle.typed_tree.specs.declared.known_types.Types.{Types}
use Rattle.typed_tree.specs.declared.typed_module.Routine.{Routine}
use Rattle.layout_storage.specs.Types.{Ty, Cell, Hidden, Array, Nothing, Field, row, frame_of}
use Rattle.layout_storage.specs.Sizes.{size}
use Rattle.layout_storage.specs.Shapes.{tree}
use Rattle.layout_storage.specs.Frames.{formals_of, formal_tree, frame}
use Rattle.layout_storage.specs.Texts.{argument_text}
use Rattle.def_meaning.specs.Store.{Location}
use Rattle.def_meaning.specs.Environment.{Modules, Passed, Number, Variable, Array as Whole, Text}
use Rattle.def_meaning.specs.Calls.{Entered, with_passed, with_all, copy_size, copies_size}
use Rattle.def_scheme.specs.Exprs.{arguments_of, all_arguments}
use Rattle.def_scheme.specs.Functions.{formals_kept, value_kept, word_kept, open_copied}
use Rattle.law_simulation.specs.Frames.{Kind, Kept, Alias, Open, Kinds, kind_tree, frame_kinds, formal_kind, kinds_of}
use Rattle.law_simulation.specs.Passing.{Form, ByName, ByArray, Forms, value_form, form_of, IsPassed, ArePassed, none_passed, more_passed}
use Rattle.law_simulation.specs.Stage.{kind_of, copy_of, copies_of, is_name, with_forms, form_kept, forms_kept, operands_of}

-- the form of a formal, by whether it is open, whether VAR stands before it, and its type
abbrev pub formed : (open_array is_var : Bool) → Ty → Form
formed o v t = if o then ByArray v t else (if v then ByName t else value_form t)

value_kind : (t : Ty) → kind_of (value_form t) ≡ Kept t
value_kind (Cell c) = refl
value_kind (Hidden n) = refl
value_kind (Array n t) = refl
value_kind Nothing = refl
value_kind (Field t u) = refl

formed_kind : (o v : Bool) (t : Ty) → kind_of (formed o v t) ≡ (if o then Open t else (if v then Alias t else Kept t))
formed_kind true v t = refl
formed_kind false true t = refl
formed_kind false false t = value_kind t

value_name : (t : Ty) → is_name (value_form t) ≡ false
value_name (Cell c) = refl
value_name (Hidden n) = refl
value_name (Array n t) = refl
value_name Nothing = refl
value_name (Field t u) = refl

formed_name : (o v : Bool) (t : Ty) → is_name (formed o v t) ≡ v
formed_name true v t = refl
formed_name false true t = refl
formed_name false false t = value_name t

formed_tree : (o v : Bool) (t : Ty) → kind_tree (if o then Open t else (if v then Alias t else Kept t))
    ≡ (if o then row (Hidden 4 ∷ Hidden 4 ∷ []) else (if v then Hidden 4 else t))
formed_tree true v t = refl
formed_tree false true t = refl
formed_tree false false t = refl

value_operands : (t : Ty) → operands_of (value_form t) ≡ 1
value_operands (Cell c) = refl
value_operands (Hidden n) = refl
value_operands (Array n t) = refl
value_operands Nothing = refl
value_operands (Field t u) = refl

formed_operands : (o v : Bool) (t : Ty) → (if o then 2 else 1) ≡ operands_of (formed o v t)
formed_operands true v t = refl
formed_operands false true t = refl
formed_operands false false t = sym (value_operands t)

value_code : (top : ℕ) (f : Ty) (v x : ℕ) (t : Ty) → value_kept f v x t ≡ form_kept top f v x (value_form t)
value_code top f v x (Cell c) = refl
value_code top f v x (Hidden n) = refl
value_code top f v x (Array n t) = refl
value_code top f v x Nothing = refl
value_code top f v x (Field t u) = refl

abbrev formed_code : (o is_var : Bool) (top : ℕ) (f : Ty) (v x : ℕ) (t : Ty) → List Instr
formed_code o is_var top f v x t =
    if o
    then (if is_var then word_kept f v (0 ∷ []) (LocalGet x ∷ [])
    ++ word_kept f v (1 ∷ []) (LocalGet (suc x) ∷ []) else open_copied top (suc top) f v x (size t))
    else (if is_var then word_kept f v [] (LocalGet x ∷ []) else value_kept f v x t)

code_is : (o is_var : Bool) (top : ℕ) (f : Ty) (v x : ℕ) (t : Ty)
    → formed_code o is_var top f v x t ≡ form_kept top f v x (formed o is_var t)
code_is true true top f v x t = refl
code_is true false top f v x t = refl
code_is false true top f v x t = refl
code_is false false top f v x t = value_code top f v x t

-- the bytes of copies
abbrev bytes_of : (o is_var : Bool) → Ty → Passed → ℕ
bytes_of o v t (Number n) = 0
bytes_of o v t (Variable l) = 0
bytes_of o v t (Whole l high) = if v then 0 else suc high * size t
bytes_of o v t (Text text) = length (argument_text text) * size t

no_bytes : size (row []) ≡ 0
unfolding size
no_bytes = refl

one_row : (n : ℕ) (t : Ty) → size (row (Array n t ∷ [])) ≡ n * size t
unfolding size
one_row n t = omega arith

value_whole : (program : Modules) (world : List Ty) (x : Location → ℕ → ℕ) (t : Ty) (l : Location) (high : ℕ)
    (vs : List Value) → IsPassed program world x (value_form t) (Whole l high) vs → ⊥
value_whole program world x (Cell c) l high vs h = h
value_whole program world x (Hidden n) l high vs h = h
value_whole program world x (Array n t) l high vs h = h
value_whole program world x Nothing l high vs h = h
value_whole program world x (Field t u) l high vs h = h

value_text : (program : Modules) (world : List Ty) (x : Location → ℕ → ℕ) (t : Ty) (text : List ℕ) (vs : List Value)
    → IsPassed program world x (value_form t) (Text text) vs → ⊥
value_text program world x (Cell c) text vs h = h
value_text program world x (Hidden n) text vs h = h
value_text program world x (Array n t) text vs h = h
value_text program world x Nothing text vs h = h
value_text program world x (Field t u) text vs h = h

no_copy : (o v : Bool) (t : Ty) (n : ℤ) → copy_of (formed o v t) (Number n) ≡ []
no_copy true true t n = refl
no_copy true false t n = refl
no_copy false true t n = refl
no_copy false false t n = by t
  where
    by : (t : Ty) → copy_of (value_form t) (Number n) ≡ []
    by (Cell c) = refl
    by (Hidden m) = refl
    by (Array m t) = refl
    by Nothing = refl
    by (Field t u) = refl

no_copy_variable : (o v : Bool) (t : Ty) (l : Location) → copy_of (formed o v t) (Variable l) ≡ []
no_copy_variable true true t l = refl
no_copy_variable true false t l = refl
no_copy_variable false true t l = refl
no_copy_variable false false t l = by t
  where
    by : (t : Ty) → copy_of (value_form t) (Variable l) ≡ []
    by (Cell c) = refl
    by (Hidden m) = refl
    by (Array m t) = refl
    by Nothing = refl
    by (Field t u) = refl

bytes_are : (program : Modules) (world : List Ty) (x : Location → ℕ → ℕ) (o v : Bool) (t : Ty) (p : Passed)
    (vs : List Value) → IsPassed program world x (formed o v t) p vs
    → size (row (copy_of (formed o v t) p)) ≡ bytes_of o v t p
bytes_are program world x o v t (Number n) vs h = ap (λ (c : List Ty). size (row c)) (no_copy o v t n) ∙ no_bytes
bytes_are program world x o v t (Variable l) vs h = ap (λ (c : List Ty). size (row c)) (no_copy_variable o v t l)
    ∙ no_bytes
bytes_are program world x true true t (Whole l high) vs h = no_bytes
bytes_are program world x true false t (Whole l high) vs h = one_row (suc high) t
bytes_are program world x false true t (Whole l high) vs h = absurd h
bytes_are program world x false false t (Whole l high) vs h = absurd (value_whole program world x t l high vs h)
bytes_are program world x true true t (Text text) vs h = absurd (true_false h.0)
  where
    true_false : true ≡ false → ⊥
    true_false e = cc e
bytes_are program world x true false t (Text text) vs h = one_row (length (argument_text text)) t
bytes_are program world x false true t (Text text) vs h = absurd h
bytes_are program world x false false t (Text text) vs h = absurd (value_text program world x t text vs h)

pub two_rows : (us vs : List Ty) → size (row (us ++ vs)) ≡ size (row us) + size (row vs)
unfolding size
two_rows [] vs = omega arith
two_rows (u ∷ us) vs = let h = two_rows us vs in omega (arith, h)

module _ (types : Types) where
  bytes_here : (a : Formal) (p : Passed) → bytes_of a.is_open a.is_var (tree types a.of) p ≡ copy_size types a p
  bytes_here a (Number n) = refl
  bytes_here a (Variable l) = refl
  bytes_here a (Whole l high) = refl
  bytes_here a (Text text) = refl

  pub copies_bytes : (program : Modules) (world : List Ty) (x : Location → ℕ → ℕ) (fs : List Formal) (ps : List Passed)
      (vs : List Value) → ArePassed program world x (map (form_of types) fs) ps vs
      → size (row (copies_of (map (form_of types) fs) ps)) ≡ copies_size types fs ps
  copies_bytes program world x [] _ _ none_passed = no_bytes
  copies_bytes program world x (a ∷ fs) _ _ (more_passed f gs p ps vs ws h hs) =
      let one = bytes_are program world x a.is_open a.is_var (tree types a.of) p vs h in
      let here = bytes_here a p in
      let more = copies_bytes program world x fs ps ws hs in
      let both = two_rows (copy_of (form_of types a) p) (copies_of (map (form_of types) fs) ps) in
      omega (arith, one, here, more, both)

  pub all_names : (root : ℕ) (fs : List Formal) (ps : List Passed) (e : Entered)
      → with_all root fs ps e ≡ with_forms root (map (form_of types) fs) ps e
  all_names root [] ps e = refl
  all_names root (a ∷ fs) [] e = refl
  all_names root (a ∷ fs) (p ∷ ps) e =
      ap (λ (b : Bool). with_all root fs ps (with_passed b root e p))
      (sym (formed_name a.is_open a.is_var (tree types a.of)))
      ∙ all_names root fs ps (with_passed (is_name (form_of types a)) root e p)

  pub all_kinds : (fs : List Formal) → map kind_of (map (form_of types) fs) ≡ map (formal_kind types) fs
  all_kinds [] = refl
  all_kinds (a ∷ fs) = ap (λ (k : Kind). k ∷ map kind_of (map (form_of types) fs))
      (formed_kind a.is_open a.is_var (tree types a.of)) ∙ ap (λ (ks : Kinds). formal_kind types a ∷ ks) (all_kinds fs)

  all_trees : (fs : List Formal) (vs : List TypeNo)
      → map kind_tree (map (formal_kind types) fs ++ map (λ t. Kept (tree types t)) vs) ≡ map (formal_tree types) fs
      ++ map (tree types) vs
  all_trees [] [] = refl
  all_trees [] (t ∷ vs) = ap (λ (ts : List Ty). tree types t ∷ ts) (all_trees [] vs)
  all_trees (a ∷ fs) vs = ap (λ (u : Ty). u
      ∷ map kind_tree (map (formal_kind types) fs ++ map (λ t. Kept (tree types t)) vs))
      (formed_tree a.is_open a.is_var (tree types a.of))
      ∙ ap (λ (ts : List Ty). formal_tree types a ∷ ts) (all_trees fs vs)

  pub frame_is : (r : Routine) → frame types r ≡ frame_kinds (kinds_of types r)
  frame_is r = ap frame_of (sym (all_trees (formals_of types r.heading) r.variables))

  pub formals_code : (top : ℕ) (f : Ty) (v x : ℕ) (fs : List Formal)
      → formals_kept types top (suc top) f v x fs ≡ forms_kept top f v x (map (form_of types) fs)
  formals_code top f v x [] = refl
  formals_code top f v x (a ∷ fs) =
      ap (λ (c : List Instr). c ++ formals_kept types top (suc top) f (suc v) (x + arguments_of a) fs)
      (code_is a.is_open a.is_var top f v x (tree types a.of))
      ∙ ap (λ (n : ℕ). form_kept top f v x (form_of types a) ++ formals_kept types top (suc top) f (suc v) (x + n) fs)
      (formed_operands a.is_open a.is_var (tree types a.of))
      ∙ ap (λ (c : List Instr). form_kept top f v x (form_of types a) ++ c)
      (formals_code top f (suc v) (x + operands_of (form_of types a)) fs)

  abbrev pub total : Forms → ℕ
  total [] = 0
  total (f ∷ fs) = operands_of f + total fs

  pub arguments_are : (fs : List Formal) → all_arguments fs ≡ total (map (form_of types) fs)
  arguments_are [] = refl
  arguments_are (a ∷ fs) = let one = formed_operands a.is_open a.is_var (tree types a.of) in
      let more = arguments_are fs in omega (arith, one, more)
