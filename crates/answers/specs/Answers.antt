-- What a call answers, and the numbers of documents 01 and 02: 0 for acceptance, else the refusal number.
use Rattle.std.specs.Prelude.{ℕ, Result, Ok, Err}
use Rattle.answers.specs.declared.Refusal.{Refusal}
use Rattle.answers.specs.declared.Refusal.TheVariants.{BadLayout, CountOutOfLimits, BadEdge, BadRotation, BadRoot, Cyclic, BadPoles, NotPlanar, NotSound, NotInSheet, Full, RootEdge, CornersApart, ClosesCircle, EdgeNeeded, VertexNeeded, BufferTooShort, InputTooLong, NotOrientable, BadDrawing, Contact, OutOfOrder}

unfoldable pub refusal_number : Refusal → ℕ
-- text or line not of the layout
refusal_number BadLayout = 1
-- n or m outside its limits
refusal_number CountOutOfLimits = 2
-- a wire line with a bar not in the sheet, or equal bars
refusal_number BadEdge = 3
-- an around line that isn't the bar's wires, each once
refusal_number BadRotation = 4
-- wire 0 isn't from 0 to 1
refusal_number BadRoot = 5
-- a directed circle
refusal_number Cyclic = 6
-- the rule on bars 0 and 1
refusal_number BadPoles = 7
-- n − m + f isn't 2
refusal_number NotPlanar = 8
-- sheet not sound
refusal_number NotSound = 9
-- a number that is not in the sheet
refusal_number NotInSheet = 10
-- n is 128 or m is 256
refusal_number Full = 11
-- wire 0 is not to be changed
refusal_number RootEdge = 12
-- p has no end at a, or q none at b, or the two corners lie in different faces
refusal_number CornersApart = 13
-- a is b, or a directed path leads from b to a
refusal_number ClosesCircle = 14
-- m is 2, or the tail has no other outgoing wire, or the head no other incoming
refusal_number EdgeNeeded = 15
-- v is 0 or 1, or hasn't exactly one incoming and one outgoing wire
refusal_number VertexNeeded = 16
-- lent buffer shorter than the text
refusal_number BufferTooShort = 17
-- more than 16,384 bytes
refusal_number InputTooLong = 18
-- no choice of directions makes the rules on circles and on bars 0 and 1 hold
refusal_number NotOrientable = 19
-- a drawing's text hasn't the line layout and line counts for the sheet, or a bar's first column exceeds its last, or a tail row isn't below its head row, or
-- a row or column isn't below the number declared
refusal_number BadDrawing = 20
-- a wire end is off its bar or a forbidden point is shared
refusal_number Contact = 21
-- a ring is in another order
refusal_number OutOfOrder = 22

-- Acceptance, or a refusal.
abbrev pub Answer : Type 0
Answer = Result (Unit {0}) Refusal

unfoldable pub answer_number : {A : Type 0} → Result A Refusal → ℕ
answer_number (Ok _) = 0
answer_number (Err r) = refusal_number r
