-- What is on a scratch, once an instruction is read onto it.
use Rattle.std.proofs.Common.{◌≡◌, ℕ, ◌+◌, ◌-◌, true, List, [], ◌∷◌, ◌++◌, length, map, Option, Some, Result, Ok, Err, refl, sym, ap, ◌∙◌, append_assoc, arith}
use Rattle.std.specs.Prelude.{slice_set, ◌==◌}
use Rattle.std.proofs.lemmas.List.{append-nil, length-append}
use Rattle.wasm_tree.specs.declared.kinds.ValueType.{ValueType}
use Rattle.wasm_tree.specs.declared.fault.WFault.{WFault}
use Rattle.wasm_tree.specs.declared.fault.WFault.TheVariants.{Malformed, OutsideProfile, Invalid, Unlinked, SegmentOutside, NoMemory}
use Rattle.wasm_tree.specs.declared.code.Op.{Op}
use Rattle.wasm_tree.specs.declared.code.Op.TheVariants as op
use Rattle.wasm_tree.specs.declared.instr.Instr.{Instr}
use Rattle.wasm_tree.specs.declared.instr.Instr.TheVariants as instr
use Rattle.wasm_tree.specs.Code.{tree, head, flat_one, flat}
use Rattle.wasm_tree.specs.Format.{Reading, ◌>>=◌, Fails}
use Rattle.wasm_tree.proofs.Flat.{tree_flat}
use Rattle.wasm_code.specs.declared.code.Ending.{Ending}
use Rattle.wasm_code.specs.declared.code.Ending.TheVariants.{End, Else}
use Rattle.wasm_code.specs.Instructions.{Sequence, one_sided, closing, code_in, code_within, code, with_end}
use Rattle.wasm_code.specs.ScratchStack.{is_plain, one_sided_op, onto, onto_sequence, onto_code, sides_of}
use Rattle.wasm_code.proofs.Laws.{read_is}
use Rattle.wasm_code.proofs.Loop.{with_instrs, fails_same}
use Rattle.wasm_code.proofs.Flats.{plain_flat, table_flat, one_flat, sides_flat}

pub put_plain : (old new : List Op) (o : Op) (bytes : List ℕ) → is_plain o ≡ true → new ≡ old ++ o ∷ []
    → onto old (Ok (head tree o [], bytes)) ≡ Ok (new, bytes)
put_plain old new o bytes h e = ap (λ (ops : List Op). Ok (ops, bytes))
    (ap (λ (one : List Op). old ++ one) (plain_flat o h) ∙ sym e)

pub put_table : (old mid new : List Op) (ls : List ℕ) (count last : ℕ) (bytes : List ℕ) → count ≡ length ls
    → mid ≡ old ++ op.BrTable count last ∷ [] → new ≡ mid ++ map op.Br ls
    → onto old (Ok (instr.BrTable ls last, bytes)) ≡ Ok (new, bytes)
put_table old mid new ls count last bytes h e f =
    ap (λ (ops : List Op). Ok (ops, bytes))
    (ap (λ (one : List Op). old ++ one) (table_flat ls last)
    ∙ ap (λ (n : ℕ). old ++ op.BrTable n last ∷ map op.Br ls) (sym h)
    ∙ sym (append_assoc old (op.BrTable count last ∷ []) (map op.Br ls))
    ∙ ap (λ (ops : List Op). ops ++ map op.Br ls) (sym e)
    ∙ sym f)

-- ---- an instruction that holds others

-- the place behind these is set
set_at : (old more : List Op) (x y : Op) → slice_set (old ++ x ∷ more) (length old) y ≡ old ++ y ∷ more
set_at [] more x y = refl
set_at (o ∷ old) more x y = ap (λ (r : List Op). o ∷ r) (set_at old more x y)

inside : (old more : List Op) (x : Op) → length ((old ++ x ∷ []) ++ more) - (length old + 1) ≡ length more
inside old more x = omega (arith, length-append (old ++ x ∷ []) more, length-append old (x ∷ []))

closed_one : (old mid new end : List Op) (place : ℕ) (x : Op) (b : ℕ) (t : Option ValueType) (is : List Instr)
    → place ≡ length old → mid ≡ old ++ x ∷ [] → new ≡ mid ++ flat is
    → end ≡ slice_set new place (one_sided_op b t (length new - (place + 1)))
    → old ++ flat_one (one_sided b t is) ≡ end
closed_one old mid new end place x b t is p e f g =
    let whole : new ≡ (old ++ x ∷ []) ++ flat is = f ∙ ap (λ (ops : List Op). ops ++ flat is) e in
    let set : end ≡ old ++ one_sided_op b t (length (flat is)) ∷ flat is =
    g ∙ ap (λ (n : ℕ). slice_set new n (one_sided_op b t (length new - (n + 1)))) p
    ∙ ap (λ (ops : List Op). slice_set ops (length old) (one_sided_op b t (length ops - (length old + 1)))) whole
    ∙ ap (λ (n : ℕ). slice_set ((old ++ x ∷ []) ++ flat is) (length old) (one_sided_op b t n)) (inside old (flat is) x)
    ∙ ap (λ (ops : List Op). slice_set ops (length old) (one_sided_op b t (length (flat is))))
    (append_assoc old (x ∷ []) (flat is))
    ∙ set_at old (flat is) x (one_sided_op b t (length (flat is))) in
    ap (λ (one : List Op). old ++ one) (one_flat b t is) ∙ sym set

closed_two : (old mid new more end : List Op) (place second : ℕ) (x : Op) (t : Option ValueType)
    (is others : List Instr)
    → place ≡ length old → mid ≡ old ++ x ∷ [] → new ≡ mid ++ flat is → second ≡ length new → more ≡ new ++ flat others
    → end ≡ slice_set more place (op.IfElse t (second - (place + 1)) (length more - second))
    → old ++ flat_one (instr.If t is (Some others)) ≡ end
closed_two old mid new more end place second x t is others p e f q h g =
    let both = flat is ++ flat others in
    let first : new ≡ (old ++ x ∷ []) ++ flat is = f ∙ ap (λ (ops : List Op). ops ++ flat is) e in
    let whole : more ≡ old ++ x ∷ both =
    h ∙ ap (λ (ops : List Op). ops ++ flat others) first ∙ append_assoc (old ++ x ∷ []) (flat is) (flat others)
    ∙ append_assoc old (x ∷ []) both in
    let n : second - (place + 1) ≡ length (flat is) = rw (q, p, first) (inside old (flat is) x) in
    let m : length more - second ≡ length (flat others) = rw (q, h) (omega (arith, length-append new (flat others))) in
    let set : end ≡ old ++ op.IfElse t (length (flat is)) (length (flat others)) ∷ both =
    g ∙ ap (λ (k : ℕ). slice_set more place (op.IfElse t k (length more - second))) n
    ∙ ap (λ (k : ℕ). slice_set more place (op.IfElse t (length (flat is)) k)) m
    ∙ ap (λ (k : ℕ). slice_set more k (op.IfElse t (length (flat is)) (length (flat others)))) p
    ∙ ap (λ (ops : List Op). slice_set ops (length old) (op.IfElse t (length (flat is)) (length (flat others)))) whole
    ∙ set_at old both x (op.IfElse t (length (flat is)) (length (flat others))) in
    ap (λ (one : List Op). old ++ one) (sides_flat t is others) ∙ sym set

-- ---- what was read

pub sequence_onto : (before new : List Op) (read : Reading Sequence) (e : Ending) (after : List ℕ)
    → onto_sequence before read ≡ Ok ((new, e), after)
    → (is : List Instr) × (read ≡ Ok ((is, e), after)) × (new ≡ before ++ flat is)
sequence_onto before new (Ok s) e after h =
    let both : ((before ++ flat s.0.0, s.0.1) ≡ (new, e)) × (s.1 ≡ after) =
    read_is (before ++ flat s.0.0, s.0.1) (new, e) s.1 after h in (
      s.0.0,
      ap (λ (x : Ending). Ok ((s.0.0, x), s.1)) (ap (λ (p : List Op × Ending). p.1) both.0)
          ∙ ap (λ (r : List ℕ). Ok ((s.0.0, e), r)) both.1,
      sym (ap (λ (p : List Op × Ending). p.0) both.0),
    )
sequence_onto before new (Err f) e after h = absurd cc

pub code_onto : (before new : List Op) (read : Reading (List Instr)) (after : List ℕ)
    → onto_code before read ≡ Ok (new, after)
    → (is : List Instr) × (read ≡ Ok (is, after)) × (new ≡ before ++ flat is)
code_onto before new (Ok s) after h =
    let both = read_is (before ++ flat s.0) new s.1 after h in
    (s.0, ap (λ (r : List ℕ). Ok (s.0, r)) both.1, sym both.0)
code_onto before new (Err f) after h = absurd cc

pub instr_onto : (before new : List Op) (read : Reading Instr) (after : List ℕ) → onto before read ≡ Ok (new, after)
    → (i : Instr) × (read ≡ Ok (i, after)) × (new ≡ before ++ flat_one i)
instr_onto before new (Ok s) after h =
    let both = read_is (before ++ flat_one s.0) new s.1 after h in
    (s.0, ap (λ (r : List ℕ). Ok (s.0, r)) both.1, sym both.0)
instr_onto before new (Err f) after h = absurd cc

-- a fault of what goes onto a scratch is one of the reading
pub faults : {A B : Type 0} (e : WFault) (read : Result A WFault) (next : A → B) → Fails e (read >>= λ x. Ok (next x))
    → Fails e read
faults Malformed (Ok x) next h = absurd cc
faults Malformed (Err f) next h = cc
faults OutsideProfile (Ok x) next h = absurd cc
faults OutsideProfile (Err f) next h = cc
faults Invalid (Ok x) next h = absurd cc
faults Invalid (Err f) next h = cc
faults Unlinked (Ok x) next h = absurd cc
faults Unlinked (Err f) next h = cc
faults SegmentOutside (Ok x) next h = absurd cc
faults SegmentOutside (Err f) next h = cc
faults NoMemory read next h = tt

-- and the other way
pub faults_on : {A B : Type 0} (e : WFault) (read : Result A WFault) (next : A → Result B WFault) → Fails e read
    → Fails e (read >>= next)
faults_on Malformed read next h = rw h refl
faults_on OutsideProfile read next h = rw h refl
faults_on Invalid read next h = rw h refl
faults_on Unlinked read next h = rw h refl
faults_on SegmentOutside read next h = rw h refl
faults_on NoMemory read next h = tt

-- ---- a sequence

more_onto : (old : List Op) (i : Instr) (next : Reading Sequence)
    → onto_sequence (old ++ flat_one i) next ≡ onto_sequence old (with_instrs (i ∷ []) next)
more_onto old i (Ok s) = ap (λ (ops : List Op). Ok ((ops, s.0.1), s.1)) (append_assoc old (flat_one i) (flat s.0.0))
more_onto old i (Err e) = refl

pub goes_on_onto : (old grown : List Op) (i : Instr) (now next : Reading Sequence) → grown ≡ old ++ flat_one i
    → now ≡ with_instrs (i ∷ []) next
    → onto_sequence old now ≡ onto_sequence grown next
goes_on_onto old grown i now next e h =
    ap (onto_sequence old) h ∙ sym (more_onto old i next) ∙ ap (λ (ops : List Op). onto_sequence ops next) (sym e)

pub fails_onto : (e : WFault) (scratch : List Op) (now : Reading Sequence) (total : Reading (List Op × Ending))
    → Fails e now → onto_sequence scratch now ≡ total → Fails e total
fails_onto e scratch now total h so_far =
    fails_same e (onto_sequence scratch now) total (faults_on e now (λ s. Ok ((scratch ++ flat s.0.0, s.0.1), s.1)) h)
    so_far

pub ends_onto : (scratch : List Op) (e : Ending) (rest : List ℕ) (now : Reading Sequence)
    (total : Reading (List Op × Ending)) → now ≡ Ok (([], e), rest) → onto_sequence scratch now ≡ total
    → total ≡ Ok ((scratch, e), rest)
ends_onto scratch e rest now total h so_far = sym so_far ∙ ap (onto_sequence scratch) h
    ∙ ap (λ (ops : List Op). Ok ((ops, e), rest)) (append-nil scratch)

-- ---- code

-- the code of what lies on the scratch alone
taken : (scratch : List Op) (read : Reading (List Instr)) (rest : List ℕ) → onto_code [] read ≡ Ok (scratch, rest)
    → read ≡ Ok (tree scratch, rest)
taken scratch read rest h =
    let r = code_onto [] scratch read rest h in
    r.1 ∙ ap (λ (is : List Instr). Ok (is, rest)) (sym (tree_flat r.0) ∙ ap tree (sym r.2))

pub code_taken : (before scratch : List Op) (is : List Instr) (bytes rest : List ℕ) → before ≡ []
    → onto_code before ((code_within 4096).reading bytes) ≡ Ok (scratch, rest) → is ≡ tree scratch
    → code.reading bytes ≡ Ok (is, rest)
unfolding code
code_taken before scratch is bytes rest none h e =
    taken scratch ((code_within 4096).reading bytes) rest
    (ap (λ (ops : List Op). onto_code ops ((code_within 4096).reading bytes)) (sym none) ∙ h)
    ∙ ap (λ (is : List Instr). Ok (is, rest)) (sym e)

-- ---- the sides of an instruction that holds others

module _ (levels b : ℕ) (t : Option ValueType) (old mid : List Op) (bytes : List ℕ) where
  pub sides_end : (new end : List Op) (place : ℕ) (x : Op) (e : Ending) (after : List ℕ) → place ≡ length old
      → mid ≡ old ++ x ∷ []
      → e ≡ End → onto_sequence mid (code_in levels bytes) ≡ Ok ((new, e), after)
      → end ≡ slice_set new place (one_sided_op b t (length new - (place + 1)))
      → onto old (sides_of levels b t bytes) ≡ Ok (end, after)
  sides_end new end place x e after p m is h g =
      let r = sequence_onto mid new (code_in levels bytes) End after (h ∙ ap (λ (y : Ending). Ok ((new, y), after)) is)
      in
      ap (λ (s : Reading Sequence). onto old (s >>= λ s. closing (code_in levels) b t s.0.0 s.0.1 s.1)) r.1
      ∙ ap (λ (ops : List Op). Ok (ops, after)) (closed_one old mid new end place x b t r.0 p m r.2 g)

  second_side : (new : List Op) (e : Ending) (after : List ℕ) → (b == 0x04) ≡ true → e ≡ Else
      → onto_sequence mid (code_in levels bytes) ≡ Ok ((new, e), after)
      → (is : List Instr) × (onto old (sides_of levels b t bytes)
      ≡ onto old (with_end (code_in levels after) >>= λ others. Ok (instr.If t is (Some others.0), others.1)))
      × (new ≡ mid ++ flat is)
  second_side new e after n is h =
      let r = sequence_onto mid new (code_in levels bytes) Else after (h ∙ ap (λ (y : Ending). Ok ((new, y), after)) is)
      in (
        r.0,
        ap (λ (s : Reading Sequence). onto old (s >>= λ s. closing (code_in levels) b t s.0.0 s.0.1 s.1)) r.1
            ∙ rw n refl,
        r.2,
      )

  pub sides_two : (new more end : List Op) (place second : ℕ) (x : Op) (e : Ending) (after rest : List ℕ)
      → place ≡ length old → mid ≡ old ++ x ∷ [] → b ≡ 0x04
      → e ≡ Else → onto_sequence mid (code_in levels bytes) ≡ Ok ((new, e), after) → second ≡ length new
      → onto_code new (with_end (code_in levels after)) ≡ Ok (more, rest)
      → end ≡ slice_set more place (op.IfElse t (second - (place + 1)) (length more - second))
      → onto old (sides_of levels b t bytes) ≡ Ok (end, rest)
  sides_two new more end place second x e after rest p m n is h q f g =
      let s = second_side new e after (ap (λ (o : ℕ). o == 0x04) n) is h in
      let r = code_onto new more (with_end (code_in levels after)) rest f in
      s.1 ∙ ap (λ (others : Reading (List Instr)). onto old
      (others >>= λ others. Ok (instr.If t s.0 (Some others.0), others.1))) r.1
      ∙ ap (λ (ops : List Op). Ok (ops, rest))
      (closed_two old mid new more end place second x t s.0 r.0 p m s.2 q r.2 g)
