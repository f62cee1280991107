-- The definitions of a curve file, computed on a few lines.
use Rattle.std.proofs.Common.{◌≡◌, [], ◌∷◌, Some, None, codes, refl, pos, negsuc}
use Rattle.cg_num.specs.Decimal.{decimal_of}
use Rattle.cg_curve.specs.Lines.{lines_from, data_lines}
use Rattle.cg_curve.specs.Rows.{row_of}

-- a remark and a blank line are skipped and counted, and a carriage return before the end of a line is dropped
lines_with_data : data_lines (codes "# a\n \t\n2002,2010,0\r\n2000 1990 0.5") ≡ (3, codes "2002,2010,0") ∷ (4, codes "2000 1990 0.5") ∷ []
unfolding lines_from
lines_with_data = refl

-- three decimals, of which the first is whole
row_said : row_of (codes "2002,2010,0") ≡ Some (record { year = pos 2002; age = pos 2010000; sigma = pos 0 })
unfolding row_of decimal_of
row_said = refl

-- further fields aren't read, and separators may stand at both ends
row_among_others : row_of (codes " ,-50\t,-1.5 ,, 0.125,x,") ≡ Some (record { year = negsuc 49; age = negsuc 1499; sigma = pos 125 })
unfolding row_of decimal_of
row_among_others = refl

-- a part of a year, two fields, a remark that doesn't begin its line, and separators alone say no row
no_part_of_a_year : row_of (codes "3000.5,1,1") ≡ None
unfolding row_of decimal_of
no_part_of_a_year = refl

no_two_fields : row_of (codes "3000,1") ≡ None
unfolding row_of decimal_of
no_two_fields = refl

no_late_remark : row_of (codes " #") ≡ None
unfolding row_of decimal_of
no_late_remark = refl

no_separators_alone : row_of (codes ",,,") ≡ None
unfolding row_of decimal_of
no_separators_alone = refl
