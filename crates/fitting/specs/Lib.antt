-- The complete rule and both rules, in the order of reading. Words that this crate uses in one sense:
--
-- a base's offset   where it lies in the file, by the line rule
-- a run             bases side by side, with no byte between them
-- numbers           position, line bases and line width, as an index line has them
-- numbers lead      to a base, if the addressing rule finds it by them at its offset; to a record, if to each of its bases
-- a record fits     if the complete rule's numbers lead to it; a misfit is the first base that they don't lead to
-- sound             numbers that can stand in a row of a table and in an index line: none is too large, and line bases and width are not 0
-- even lines        all like the first, but for a last with no more bases, and blank lines behind them
-- a blank line      a line without bases
-- terminated        a line with a byte behind its bases, as every line has that another follows
-- told              what a call, or a value that takes lines one by one, answers at the end
pub mod Complete
pub mod Rules
pub mod Leads
pub mod Sound
pub mod FirstLine
pub mod Even
pub mod BlankLines
pub mod Laws
pub mod EvenLaws
pub mod Quick
pub mod LineByLine
