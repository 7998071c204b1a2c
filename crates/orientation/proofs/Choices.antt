-- Choices of directions one after the other, and sheets that have the same wires. Assumes nothing.
use Rattle.std.proofs.Common.{◌≡◌, ℕ, ◌<◌, ◌≤◌, sym, refl, ◌∙◌, arith}
use Rattle.counting.proofs.Paths.{carry}
use Rattle.clauses.specs.declared.Sheet.{Sheet}
use Rattle.sheet.specs.Darts.{tail, head}
use Rattle.sheet.specs.Sound.{Joins, Leads}
use Rattle.orientation.specs.Links.{Directs, Choice, Bipolar, Orientable}
use Rattle.orientation.specs.Links.Directs.{kept, reversed}

-- ---- links as they stand, a choice, taken back, and a choice of a choice

pub choice_refl : (s : Sheet) → Choice s s
choice_refl s = record { vertices = refl; edges = refl; directs = λ k h. kept refl refl; root_tail = refl; root_head = refl }

pub choice_sym : {s t : Sheet} → Choice s t → Choice t s
choice_sym {s} {t} C = record {
  vertices = sym C.vertices;
  edges = sym C.edges;
  directs = λ k h. elim (C.directs k (omega (arith, C.edges))) [ kept p q ↦ kept (sym p) (sym q) | reversed p q ↦ reversed (sym q) (sym p) ];
  root_tail = sym C.root_tail;
  root_head = sym C.root_head;
}

-- wire k of a choice of a choice
directs_trans : {s t u : Sheet} {k : ℕ} → Directs s t k → Directs t u k → Directs s u k
directs_trans (kept p q) (kept x y) = kept (x ∙ p) (y ∙ q)
directs_trans (kept p q) (reversed x y) = reversed (x ∙ q) (y ∙ p)
directs_trans (reversed p q) (kept x y) = reversed (x ∙ p) (y ∙ q)
directs_trans (reversed p q) (reversed x y) = kept (x ∙ q) (y ∙ p)

pub choice_trans : {s t u : Sheet} → Choice s t → Choice t u → Choice s u
choice_trans C D = record {
  vertices = D.vertices ∙ C.vertices;
  edges = D.edges ∙ C.edges;
  directs = λ k h. directs_trans (C.directs k h) (D.directs k (omega (arith, C.edges)));
  root_tail = D.root_tail ∙ C.root_tail;
  root_head = D.root_head ∙ C.root_head;
}

-- a wire joins two different bars where its link does
pub directs_joins : {s t : Sheet} {k : ℕ} → t.vertices ≡ s.vertices → Directs s t k → Joins s k → Joins t k
directs_joins n (kept p q) J = record { tail_in = omega (arith, p, n, J.tail_in); head_in = omega (arith, q, n, J.head_in); different = λ e. J.different (sym p ∙ e ∙ q) }
directs_joins n (reversed p q) J = record { tail_in = omega (arith, p, n, J.head_in); head_in = omega (arith, q, n, J.tail_in); different = λ e. J.different (sym q ∙ sym e ∙ p) }

-- a sheet of links and a choice of directions for them have the same choices
pub orientable_choice : {s t : Sheet} → Choice s t → Orientable t → Orientable s
orientable_choice C O = record { sheet = O.sheet; choice = choice_trans C O.choice; bipolar = O.bipolar }

-- ---- sheets that have the same wires, whatever their rings

pub record SameWires (s t : Sheet) : Type 0 where
  pub some : 1 ≤ s.edges
  pub vertices : t.vertices ≡ s.vertices
  pub edges : t.edges ≡ s.edges
  pub tails : (k : ℕ) → k < s.edges → tail t k ≡ tail s k
  pub heads : (k : ℕ) → k < s.edges → head t k ≡ head s k

pub same_choice : {s t : Sheet} → SameWires s t → Choice s t
same_choice S = record {
  vertices = S.vertices;
  edges = S.edges;
  directs = λ k h. kept (S.tails k h) (S.heads k h);
  root_tail = S.tails 0 S.some;
  root_head = S.heads 0 S.some;
}

pub same_bipolar : {s t : Sheet} → SameWires s t → Bipolar s → Bipolar t
same_bipolar {s} {t} S B = record {
  root_tail = S.tails 0 S.some ∙ B.root_tail;
  root_head = S.heads 0 S.some ∙ B.root_head;
  acyclic = λ c. B.acyclic (record { at = c.at; edges = c.edges; round = carry back c.round });
  poles = record {
    source = λ (k, h, e). (let l : k < s.edges = omega (arith, S.edges) in B.poles.source (k, l, sym (S.heads k l) ∙ e));
    other_sources = λ v h o. (let (k, l, e) = B.poles.other_sources v (omega (arith, S.vertices)) o in (k, omega (arith, S.edges), S.heads k l ∙ e));
    sink = λ (k, h, e). (let l : k < s.edges = omega (arith, S.edges) in B.poles.sink (k, l, sym (S.tails k l) ∙ e));
    other_sinks = λ v h o. (let (k, l, e) = B.poles.other_sinks v (omega (arith, S.vertices)) o in (k, omega (arith, S.edges), S.tails k l ∙ e));
  };
}
  where
    back : (u v : ℕ) → Leads t u v → Leads s u v
    back u v l =
        let h : l.edge < s.edges = omega (arith, l.edge_in, S.edges) in
        record { edge = l.edge; edge_in = h; from = sym (S.tails l.edge h) ∙ l.from; to = sym (S.heads l.edge h) ∙ l.to }

-- where our choice is bipolar, links with it can be directed
pub bipolar_orientable : {s : Sheet} → Bipolar s → Orientable s
bipolar_orientable {s} B = record { sheet = s; choice = choice_refl s; bipolar = B }
