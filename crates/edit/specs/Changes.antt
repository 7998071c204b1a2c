-- What the four edits do to a sheet.
use Rattle.std.specs.Prelude.{ℕ, ◌+◌, ◌-◌, cond, List, map, eqb, get_or, set}
use Rattle.counting.specs.Below.{lowest_below}
use Rattle.clauses.specs.declared.Sheet.{Sheet}
use Rattle.clauses.specs.Darts.{tail_dart, head_dart}
use Rattle.sheet.specs.Darts.{tail, head, dart_at}

-- x, but new where it is old
unfoldable pub renamed : ℕ → ℕ → ℕ → ℕ
renamed old new x = cond (eqb x old) new x

-- dart `new` takes the place of dart `old` in its ring
unfoldable pub replace_dart : ℕ → ℕ → List ℕ → List ℕ
replace_dart old new nexts = let named = map (renamed old new) nexts in set named new (get_or named old 0)

-- dart `new` comes just after dart d clockwise
unfoldable pub insert_dart : ℕ → ℕ → List ℕ → List ℕ
insert_dart new d nexts = set (set nexts new (get_or nexts d 0)) d new

-- dart d leaves its ring
unfoldable pub remove_dart : ℕ → List ℕ → List ℕ
remove_dart d nexts = map (renamed d (get_or nexts d 0)) nexts

-- Put in (wire k): bar n is new; wire k now ends there, wire m goes from bar n to the old head and takes k's place in its ring.
unfoldable pub put_in : Sheet → ℕ → Sheet
put_in s k =
    let n = s.vertices in
    let m = s.edges in
    record {
      vertices = n + 1;
      edges = m + 1;
      tails = set s.tails m n;
      heads = set (set s.heads m (head s k)) k n;
      nexts = set (set (replace_dart (head_dart k) (head_dart m) s.nexts) (head_dart k) (tail_dart m)) (tail_dart m) (head_dart k);
    }

-- Run (bar a, wire p, bar b, wire q): wire m goes from a to b; its end at a comes just after p clockwise, its end at b just after q.
unfoldable pub run_edge : Sheet → ℕ → ℕ → ℕ → ℕ → Sheet
run_edge s a p b q =
    let m = s.edges in
    record {
      vertices = s.vertices;
      edges = m + 1;
      tails = set s.tails m a;
      heads = set s.heads m b;
      nexts = insert_dart (head_dart m) (dart_at s q b) (insert_dart (tail_dart m) (dart_at s p a) s.nexts);
    }

-- wire m − 1, if another, gets number k, and its old entries are 0
unfoldable pub last_edge_to : Sheet → ℕ → Sheet
last_edge_to s k =
    let l = s.edges - 1 in
    let named = replace_dart (head_dart l) (head_dart k) (replace_dart (tail_dart l) (tail_dart k) s.nexts) in
    record {
      vertices = s.vertices;
      edges = l;
      tails = set (set s.tails k (tail s l)) l 0;
      heads = set (set s.heads k (head s l)) l 0;
      nexts = set (set named (tail_dart l) 0) (head_dart l) 0;
    }

-- bar n − 1, if another, gets number v
unfoldable pub last_vertex_to : Sheet → ℕ → Sheet
last_vertex_to s v =
    let l = s.vertices - 1 in
    record { vertices = l; edges = s.edges; tails = map (renamed l v) s.tails; heads = map (renamed l v) s.heads; nexts = s.nexts }

-- Take out a wire (k): both ends leave their rings. Then wire m − 1, if another, gets number k.
unfoldable pub take_out_edge : Sheet → ℕ → Sheet
take_out_edge s k = last_edge_to (record {
  vertices = s.vertices;
  edges = s.edges;
  tails = s.tails;
  heads = s.heads;
  nexts = remove_dart (head_dart k) (remove_dart (tail_dart k) s.nexts);
}) k

-- the one incoming and the one outgoing wire of a bar
unfoldable pub incoming_edge : Sheet → ℕ → ℕ
incoming_edge s v = lowest_below (λ k. eqb (head s k) v) s.edges

unfoldable pub outgoing_edge : Sheet → ℕ → ℕ
outgoing_edge s v = lowest_below (λ k. eqb (tail s k) v) s.edges

-- Take out a bar (v), with one incoming and one outgoing wire: the incoming wire goes on to the outgoing one's head, in its place; the outgoing wire goes.
-- The last wire gets the freed number, then bar n − 1 gets number v.
unfoldable pub take_out_vertex : Sheet → ℕ → Sheet
take_out_vertex s v =
    let i = incoming_edge s v in
    let o = outgoing_edge s v in
    last_vertex_to (last_edge_to (record {
      vertices = s.vertices;
      edges = s.edges;
      tails = s.tails;
      heads = set s.heads i (head s o);
      nexts = replace_dart (head_dart o) (head_dart i) s.nexts;
    }) o) v
