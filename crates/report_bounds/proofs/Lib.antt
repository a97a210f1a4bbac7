mod Totals
