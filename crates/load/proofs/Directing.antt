-- What directions leave of the edges that are read. Assumes nothing.
use Rattle.std.proofs.Common.{◌≡◌, ℕ, ◌<◌, ◌≤◌, ◌≢◌, refl, sym, ap, ◌∙◌, arith, List, eqb}
use Rattle.std.proofs.Math.Bool.{or_comm}
use Rattle.clauses.specs.Darts.{touches_of}
use Rattle.clauses.specs.declared.Sheet.{Sheet}
use Rattle.sheet.specs.Darts.{tail, head}
use Rattle.counting.specs.Counts.{count}
use Rattle.counting.proofs.Counts.{count_agree}
use Rattle.orientation.specs.Links.{Directs}
use Rattle.orientation.specs.Links.Directs.{kept, reversed}
use Rattle.orientation.specs.Ears.{oriented}
use Rattle.orientation.proofs.Choosing.{oriented_counts, oriented_directs}
use Rattle.digraph.specs.Inner.{Ends}
use Rattle.load.specs.declared.Form.{Form}
use Rattle.load.specs.declared.Form.TheVariants.{Directed, Undirected}
use Rattle.load.specs.Load.{directed}
use Rattle.load.specs.Inner.{Counted, EdgesRead}

module _ (s t : Sheet) (v k : ℕ) where
  -- a wire has an end where its link has
  pub same_touches : Directs s t k → touches_of t.tails t.heads k v ≡ touches_of s.tails s.heads k v
  unfolding touches_of
  same_touches (kept p q) = rw (p, q) refl
  same_touches (reversed p q) = rw (p, q) (or_comm (eqb (head s k) v) (eqb (tail s k) v))

-- what is read of the edges is so with directions
pub read_directed : (form : Form) (s : Sheet) → EdgesRead s → EdgesRead (directed form s)
unfolding directed
read_directed Directed s r = r
read_directed Undirected s (n, m, joins) =
    let (vertices, edges) = oriented_counts s in
    (omega (arith, vertices), omega (arith, edges), λ k h. let l : k < s.edges = omega (arith, edges) in two k (joins k l) (oriented_directs s k l))
  where
    two : (k : ℕ) → (tail s k < 128) × (head s k < 128) × (tail s k ≢ head s k) → Directs s (oriented s) k
        → (tail (oriented s) k < 128) × (head (oriented s) k < 128) × (tail (oriented s) k ≢ head (oriented s) k)
    two k (a, b, n) (kept p q) = (omega (arith, p), omega (arith, q), λ e. n (sym p ∙ e ∙ q))
    two k (a, b, n) (reversed p q) = (omega (arith, p), omega (arith, q), λ e. n (sym q ∙ sym e ∙ p))

-- and so is how many of them have an end at each vertex
pub counted_directed : (form : Form) (s : Sheet) (degrees : List ℕ) → Counted s.edges s.tails s.heads degrees
    → Counted (directed form s).edges (directed form s).tails (directed form s).heads degrees
unfolding directed
counted_directed Directed s degrees counted = counted
counted_directed Undirected s degrees counted = λ v h.
    counted v h
    ∙ count_agree (λ i. touches_of s.tails s.heads i v) (λ i. touches_of (oriented s).tails (oriented s).heads i v) s.edges (λ i l. sym (same_touches s (oriented s) v i (oriented_directs s i l)))
    ∙ ap (count (λ i. touches_of (oriented s).tails (oriented s).heads i v)) (sym ((oriented_counts s).1))

-- the ends of the edges that are read are vertices below 128
pub read_ends : (s : Sheet) → EdgesRead s → (s.vertices ≤ 128) × Ends 128 s.edges s.tails × Ends 128 s.edges s.heads
read_ends s (n, m, joins) = (n, record { few = m; inside = λ k h. (joins k h).0 }, record { few = m; inside = λ k h. (joins k h).1 })
