mod Columns
