mod Widths
